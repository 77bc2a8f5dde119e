use Rattle.std.proofs.Common.{◌≡◌, ◌++◌, take}
use Rattle.csv.specs.Records.{fields_of}
use Rattle.rs_csv.specs.Rejects.{fields_text}
use Rattle.rs_csv.proofs.rejects.push_fields.Given as goal

abbrev pub invariant-loop-place : goal.invariant-loop-place
invariant-loop-place l = record {
  put : l.row.items ≡ l.fn.row.items ++ fields_text l.separator (take l.place (fields_of l.csv_record));
}
