use Rattle.std.proofs.Common.{◌≡◌, flat_map, take}
use Rattle.rs_plan.specs.Operands.{range_of}
use Rattle.rs_plan.proofs.overlays.columns_together.Given as goal

abbrev pub invariant-loop-one : goal.invariant-loop-one
invariant-loop-one l = l.columns.items ≡ flat_map range_of (take l.one-index l.written)
