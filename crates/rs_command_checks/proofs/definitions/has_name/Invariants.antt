use Rattle.std.proofs.Common.{◌≡◌, drop}
use Rattle.rs_command_checks.proofs.ColumnNames.{has_name_in}
use Rattle.rs_command_checks.proofs.definitions.has_name.Given as goal

abbrev pub invariant-loop-column : goal.invariant-loop-column
invariant-loop-column l = has_name_in l.name.bytes l.columns ≡ has_name_in l.name.bytes (drop l.column-index l.columns)
