use Rattle.std.proofs.Common.{◌≡◌, drop}
use Rattle.rs_command_checks.proofs.ColumnNames.{twice_in}
use Rattle.rs_command_checks.proofs.definitions.has_name_twice.Given as goal

abbrev pub invariant-loop-i : goal.invariant-loop-i
invariant-loop-i l = twice_in l.columns ≡ twice_in (drop l.i l.columns)
