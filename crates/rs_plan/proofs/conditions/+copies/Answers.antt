use Rattle.std.proofs.Common.{map, sym, ap, ◌∙◌}
use Rattle.std.proofs.lemmas.List.{take_all}
use Rattle.rs_facts.specs.ConditionView.{condition_of}
use Rattle.rs_planning.specs.Conjuncts.{condition_at}
use Rattle.rs_plan.specs.Conditions.{place_of}
use Rattle.rs_plan.proofs.Walks.{map-map}
use Rattle.rs_plan.proofs.ConditionWalks.{both-at, either-at}
use Rattle.rs_plan.proofs.conditions.+copies.Goals as goal

pub copied-returns-in_ok-copies-in-Both : goal.copied-returns-in_ok-copies-in-Both
copied-returns-in_ok-copies-in-Both t c =
    both-at (place_of c.args.places) c.in-Both.parts c.in_ok-copies-in-Both.field-0 (c.in_ok-copies-in-Both.ensures ∙ ap (λ zs. map (condition_at (place_of c.args.places)) (map condition_of zs)) c.as_slice.ensures.value)
    ∙ ap (λ k. condition_at (place_of c.args.places) (condition_of k)) (sym c.in-Both.is)

pub copied-returns-in_ok-copies-in-Either : goal.copied-returns-in_ok-copies-in-Either
copied-returns-in_ok-copies-in-Either t c =
    either-at (place_of c.args.places) c.in-Either.parts c.in_ok-copies-in-Either.field-0 (c.in_ok-copies-in-Either.ensures ∙ ap (λ zs. map (condition_at (place_of c.args.places)) (map condition_of zs)) c.as_slice-in-Either.ensures.value)
    ∙ ap (λ k. condition_at (place_of c.args.places) (condition_of k)) (sym c.in-Either.is)

pub copies-returns : goal.copies-returns
copies-returns t c =
    c.loop-condition.invariant ∙ ap (map (λ condition. condition_at (place_of c.args.places) (condition_of condition))) (take_all _ _ c.loop-condition-test.false)
    ∙ sym (map-map (condition_at (place_of c.args.places)) condition_of c.args.conditions.now)
