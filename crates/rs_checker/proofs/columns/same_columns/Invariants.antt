use Rattle.std.proofs.Common.{◌≡◌, drop}
use Rattle.rs_checker.proofs.ColumnLaws.{agree}
use Rattle.rs_checker.proofs.columns.same_columns.Given as goal

abbrev pub invariant-loop-i : goal.invariant-loop-i
invariant-loop-i l = agree (drop l.i l.left) (drop l.i l.right) ≡ agree l.left l.right
