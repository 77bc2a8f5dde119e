use Rattle.std.proofs.Common.{◌++◌, ◌∷◌, [], map, ap, ◌∙◌}
use Rattle.std.proofs.lemmas.List.{map-append}
use Rattle.rs_facts.specs.ConditionView.{condition_of}
use Rattle.rs_plan.specs.PlanView.{conditions_of}
use Rattle.rs_plan.proofs.ConditionWalks.{at-same}
use Rattle.rs_plan.proofs.conditions.and_whole.Goals as goal

pub returns : goal.returns
returns c =
    ap (map condition_of) c.in_ok-push.ensures.items ∙ map-append condition_of c.args.conditions.items _
    ∙ ap (λ k. conditions_of c.args.conditions ++ k ∷ []) (c.in_ok-copied.ensures ∙ at-same (condition_of c.args.condition.now))
