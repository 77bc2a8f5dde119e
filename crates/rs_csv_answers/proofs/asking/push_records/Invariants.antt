use Rattle.std.proofs.Common.{◌≡◌, ◌++◌, drop}
use Rattle.std.specs.Prelude.{flat_map}
use Rattle.rs_csv_answers.specs.Records.{record_of}
use Rattle.rs_serve.specs.ReplyView.{rows_of}
use Rattle.rs_csv_answers.proofs.asking.push_records.Given as goal

abbrev pub invariant-loop-row : goal.invariant-loop-row
invariant-loop-row l = l.text.items ++ flat_map record_of (rows_of (drop l.row-index l.rows)) ≡ l.fn.text.items ++ flat_map record_of (rows_of l.rows)
