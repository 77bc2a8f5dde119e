use Rattle.std.proofs.Common.{◌≡◌, drop}
use Rattle.rs_checker.proofs.ColumnLaws.{has_name_in}
use Rattle.rs_checker.proofs.columns.has_name.Given as goal

abbrev pub invariant-loop-column : goal.invariant-loop-column
invariant-loop-column l = has_name_in l.name.bytes l.columns ≡ has_name_in l.name.bytes (drop l.column-index l.columns)
