use Rattle.std.proofs.Common.{◌≡◌, map, filter, take}
use Rattle.rs_facts.specs.ConditionView.{condition_of}
use Rattle.rs_planning.specs.Conjuncts.{condition_at}
use Rattle.rs_plan.specs.Conditions.{is_share, places_of_share}
use Rattle.rs_plan.specs.PlanView.{conditions_of}
use Rattle.rs_plan.proofs.conditions.share_of.Given as goal

abbrev pub invariant-loop-condition : goal.invariant-loop-condition
invariant-loop-condition l = conditions_of l.chosen ≡ map (condition_at (places_of_share l.share l.width)) (filter (is_share l.share l.width) (map condition_of (take l.condition-index l.conditions)))
