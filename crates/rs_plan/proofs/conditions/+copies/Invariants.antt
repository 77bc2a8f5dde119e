use Rattle.std.proofs.Common.{◌≡◌, map, take}
use Rattle.rs_facts.specs.ConditionView.{condition_of}
use Rattle.rs_planning.specs.Conjuncts.{condition_at}
use Rattle.rs_plan.specs.Conditions.{place_of}
use Rattle.rs_plan.proofs.conditions.+copies.Given as goal

abbrev pub invariant-copies-loop-condition : goal.invariant-copies-loop-condition
invariant-copies-loop-condition l = map condition_of l.copies.items ≡ map (λ condition. condition_at (place_of l.places) (condition_of condition)) (take l.condition-index l.conditions)
