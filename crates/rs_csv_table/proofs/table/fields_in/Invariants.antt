use Rattle.std.proofs.Common.{◌≡◌, take}
use Rattle.csv.specs.Records.{fields_of as fields_read}
use Rattle.rs_csv_table.specs.Records.{fields_of}
use Rattle.rs_csv_table.proofs.table.fields_in.Given as goal

abbrev pub invariant-loop-place : goal.invariant-loop-place
invariant-loop-place l = fields_of l.fields.items ≡ take l.place (fields_read l.record)
