use Rattle.std.proofs.Common.{◌≡◌, ◌+◌, length}
use Rattle.rs_value.specs.Row.{Row}
use Rattle.rs_value.specs.Kept.{Keeps}
use Rattle.rs_value.proofs.kept_bytes.count_values.Given as goal

abbrev pub invariant-loop-count : goal.invariant-loop-count
invariant-loop-count l = record {
  there : (left : Row) × Keeps l.rest left;
  counted : (row : Row) → Keeps l.bytes row → (left : Row) × Keeps l.rest left × (l.count + length left ≡ length row);
}

abbrev pub decreases-loop-count : goal.decreases-loop-count
decreases-loop-count l = length l.rest
