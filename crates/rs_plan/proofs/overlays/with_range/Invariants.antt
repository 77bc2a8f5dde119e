use Rattle.std.proofs.Common.{◌≡◌, ◌++◌}
use Rattle.rs_plan.specs.Operands.{range_from}
use Rattle.rs_plan.proofs.overlays.with_range.Given as goal

abbrev pub invariant-loop-place : goal.invariant-loop-place
invariant-loop-place l = l.all.items ≡ l.initial.all.items ++ range_from l.first l.place
