use Rattle.std.proofs.Common.{take}
use Rattle.csv.specs.Records.{fields_of}
use Rattle.rs_csv.proofs.NamesFiles.{GrewBy}
use Rattle.rs_csv.proofs.names_file.push_columns.Given as goal

abbrev pub invariant-loop-place : goal.invariant-loop-place
invariant-loop-place l = record {
  put : GrewBy l.fn.rows.items (take l.place (fields_of l.header)) l.rows.items;
}
