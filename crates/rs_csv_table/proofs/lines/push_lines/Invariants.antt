use Rattle.std.proofs.Common.{◌≡◌, ◌++◌, drop}
use Rattle.std.specs.Prelude.{flat_map}
use Rattle.rs_csv_table.specs.Records.{records_of}
use Rattle.rs_csv_table.specs.Tables.{line_of}
use Rattle.rs_csv_table.proofs.lines.push_lines.Given as goal

abbrev pub invariant-loop-record : goal.invariant-loop-record
invariant-loop-record l = l.text.items ++ flat_map (line_of l.columns) (records_of (drop l.record-index l.records)) ≡ l.fn.text.items ++ flat_map (line_of l.columns) (records_of l.records)
