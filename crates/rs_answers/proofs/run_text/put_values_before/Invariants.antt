-- The values from a column on are put, each after a space.
use Rattle.std.proofs.Common.{◌≡◌, ◌≤◌, ◌++◌, drop, length}
use Rattle.rs_value.specs.Text.{values_text}
use Rattle.rs_answers.proofs.run_text.put_values_before.Given as goal

abbrev pub invariant-loop-left : goal.invariant-loop-left
invariant-loop-left l =
    (l.at ≤ l.fn.end) × (l.left ≤ length l.row) × (length l.bytes ≡ length l.fn.bytes)
    × (drop l.at l.bytes ≡ values_text (drop l.left l.row) ++ drop l.fn.end l.fn.bytes)

abbrev pub decreases-loop-left : goal.decreases-loop-left
decreases-loop-left l = l.left
