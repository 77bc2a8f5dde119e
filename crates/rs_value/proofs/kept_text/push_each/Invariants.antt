use Rattle.std.proofs.Common.{◌≡◌, ◌++◌, length, string_bytes}
use Rattle.rs_value.specs.Row.{Row}
use Rattle.rs_value.specs.Kept.{Keeps}
use Rattle.rs_value.specs.Text.{values_text}
use Rattle.rs_value.proofs.kept_text.push_each.Given as goal

abbrev pub invariant-loop-rest : goal.invariant-loop-rest
invariant-loop-rest l = record {
  there : (left : Row) × Keeps l.rest left;
  text : (row : Row) → Keeps l.kept row → (left : Row) × Keeps l.rest left × (string_bytes l.text ++ values_text left ≡ string_bytes l.fn.text ++ values_text row);
}

abbrev pub decreases-loop-rest : goal.decreases-loop-rest
decreases-loop-rest l = length l.rest
