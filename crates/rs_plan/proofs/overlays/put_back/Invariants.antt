use Rattle.std.proofs.Common.{◌≡◌, map}
use Rattle.std.specs.List.{range_with_len}
use Rattle.rs_plan.specs.Operands.{place_among}
use Rattle.rs_plan.proofs.overlays.put_back.Given as goal

abbrev pub invariant-loop-column : goal.invariant-loop-column
invariant-loop-column l = l.back.items ≡ map (place_among l.columns) (range_with_len 0 l.column)
