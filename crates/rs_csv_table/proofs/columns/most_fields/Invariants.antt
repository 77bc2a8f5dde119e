use Rattle.std.proofs.Common.{◌≡◌, drop, max}
use Rattle.rs_csv_table.specs.Columns.{most_fields}
use Rattle.rs_csv_table.specs.Records.{records_of}
use Rattle.rs_csv_table.proofs.columns.most_fields.Given as goal

abbrev pub invariant-loop-record : goal.invariant-loop-record
invariant-loop-record l = max l.most (most_fields (records_of (drop l.record-index l.records))) ≡ most_fields (records_of l.records)
