use Rattle.std.proofs.Common.{◌≡◌, ◌++◌, flat_map, take}
use Rattle.rs_facts.specs.ConditionView.{condition_of}
use Rattle.rs_planning.specs.Conjuncts.{conjuncts}
use Rattle.rs_plan.specs.PlanView.{conditions_of}
use Rattle.rs_plan.proofs.conditions.+conjuncts.Given as goal

abbrev pub invariant-and_each-loop-part : goal.invariant-and_each-loop-part
invariant-and_each-loop-part l = conditions_of l.all ≡ conditions_of l.initial.all ++ flat_map (λ part. conjuncts (condition_of part)) (take l.part-index l.parts)
