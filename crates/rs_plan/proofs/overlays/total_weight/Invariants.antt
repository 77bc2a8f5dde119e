use Rattle.std.proofs.Common.{◌≡◌, ◌-◌, ◌^◌, min, take}
use Rattle.rs_plan.specs.Operands.{weights}
use Rattle.rs_plan.proofs.overlays.total_weight.Given as goal

abbrev pub invariant-loop-operand : goal.invariant-loop-operand
invariant-loop-operand l = l.total ≡ min (weights (take l.operand-index l.operands)) (2 ^ 128 - 1)
