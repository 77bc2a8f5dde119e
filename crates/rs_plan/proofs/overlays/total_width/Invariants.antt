use Rattle.std.proofs.Common.{◌≡◌, ◌-◌, ◌^◌, min, take}
use Rattle.rs_plan.specs.Operands.{widths}
use Rattle.rs_plan.proofs.overlays.total_width.Given as goal

abbrev pub invariant-loop-operand : goal.invariant-loop-operand
invariant-loop-operand l = l.total ≡ min (widths (take l.operand-index l.operands)) (2 ^ 8 - 1)
