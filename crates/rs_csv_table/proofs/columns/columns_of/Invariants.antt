use Rattle.std.proofs.Common.{◌≡◌, map}
use Rattle.std.specs.List.{range_with_len}
use Rattle.rs_csv_table.specs.Columns.{column_in}
use Rattle.rs_csv_table.specs.Records.{records_of}
use Rattle.rs_csv_table.proofs.columns.columns_of.Given as goal

abbrev pub invariant-loop-place : goal.invariant-loop-place
invariant-loop-place l = l.columns.items ≡ map (column_in (records_of l.records)) (range_with_len 0 l.place)
