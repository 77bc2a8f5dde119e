use Rattle.std.proofs.Common.{map, sym, ap, ◌∙◌}
use Rattle.rs_facts.specs.ConditionView.{condition_of}
use Rattle.rs_planning.specs.Conjuncts as said
use Rattle.rs_plan.specs.Conditions.{only_equates}
use Rattle.rs_plan.proofs.ConditionWalks.{both-equate, either-equate}
use Rattle.rs_plan.proofs.conditions.+equates.Goals as goal

pub equates-returns-in-Both : goal.equates-returns-in-Both
equates-returns-in-Both t c =
    c.only_equates.ensures ∙ ap (λ zs. only_equates c.args.place (map condition_of zs)) c.as_slice.ensures.value
    ∙ both-equate c.args.place c.in-Both.parts ∙ ap (λ k. said.equates c.args.place (condition_of k)) (sym c.in-Both.is)

pub equates-returns-in-Either : goal.equates-returns-in-Either
equates-returns-in-Either t c =
    c.only_equates-in-Either.ensures ∙ ap (λ zs. only_equates c.args.place (map condition_of zs)) c.as_slice-in-Either.ensures.value
    ∙ either-equate c.args.place c.in-Either.parts ∙ ap (λ k. said.equates c.args.place (condition_of k)) (sym c.in-Either.is)
