use Rattle.std.proofs.Common.{◌≡◌, drop}
use Rattle.std.specs.List.{list_any}
use Rattle.rs_facts.specs.ConditionView.{condition_of}
use Rattle.rs_planning.specs.Conjuncts.{equates}
use Rattle.rs_plan.proofs.conditions.some_equates.Given as goal

abbrev pub invariant-loop-condition : goal.invariant-loop-condition
invariant-loop-condition l = list_any (λ condition. equates l.place (condition_of condition)) l.conditions ≡ list_any (λ condition. equates l.place (condition_of condition)) (drop l.condition-index l.conditions)
