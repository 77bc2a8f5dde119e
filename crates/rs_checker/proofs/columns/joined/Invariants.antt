use Rattle.std.proofs.Common.{◌≡◌, ◌+◌, ◌++◌, length, take}
use Rattle.rs_checker.proofs.columns.joined.Given as goal

abbrev pub invariant-loop-column : goal.invariant-loop-column
invariant-loop-column l = (length l.left.items ≡ length l.fn.left.items + l.column-index) × (l.left.items ≡ l.fn.left.items ++ take l.column-index l.right)
