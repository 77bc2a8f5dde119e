use Rattle.std.proofs.Common.{◌≡◌, drop}
use Rattle.rs_checker.proofs.ColumnLaws.{twice_in}
use Rattle.rs_checker.proofs.columns.some_name_twice.Given as goal

abbrev pub invariant-loop-i : goal.invariant-loop-i
invariant-loop-i l = twice_in l.names ≡ twice_in (drop l.i l.names)
