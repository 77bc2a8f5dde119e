use Rattle.std.proofs.Common.{◌≡◌, drop}
use Rattle.rs_checker.proofs.ColumnLaws.{share_in}
use Rattle.rs_checker.proofs.columns.share_a_name.Given as goal

abbrev pub invariant-loop-column : goal.invariant-loop-column
invariant-loop-column l = share_in l.right l.left ≡ share_in l.right (drop l.column-index l.left)
