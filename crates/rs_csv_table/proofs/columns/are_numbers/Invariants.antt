use Rattle.std.proofs.Common.{◌≡◌, drop}
use Rattle.rs_csv_table.specs.Columns.{are_numbers}
use Rattle.rs_csv_table.specs.Records.{records_of}
use Rattle.rs_csv_table.proofs.columns.are_numbers.Given as goal

abbrev pub invariant-loop-row : goal.invariant-loop-row
invariant-loop-row l = are_numbers l.place (records_of (drop l.row-index l.rows)) ≡ are_numbers l.place (records_of l.rows)
