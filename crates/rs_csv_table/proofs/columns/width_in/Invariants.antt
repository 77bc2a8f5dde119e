use Rattle.std.proofs.Common.{◌≡◌, drop, max}
use Rattle.rs_csv_table.specs.Columns.{width_in}
use Rattle.rs_csv_table.specs.Records.{records_of}
use Rattle.rs_csv_table.proofs.columns.width_in.Given as goal

abbrev pub invariant-loop-record : goal.invariant-loop-record
invariant-loop-record l = max l.width (width_in l.place (records_of (drop l.record-index l.records))) ≡ width_in l.place (records_of l.records)
