use Rattle.std.proofs.Common.{◌≡◌, ◌++◌, ◌-◌, ◌≤◌, drop, take, false, []}
use Rattle.rs_csv_answers.specs.Records.{fields_from}
use Rattle.rs_csv_answers.proofs.records.push_fields.Given as goal

-- What is appended, the field begun, and the rest of the row make the row's fields.
abbrev pub invariant-loop-place : goal.invariant-loop-place
invariant-loop-place l = record {
  begun : l.begin ≤ l.place;
  text : l.text.items ++ fields_from l.is_quoted (take (l.place - l.begin) (drop l.begin l.row)) (drop l.place l.row) ≡ l.fn.text.items ++ fields_from false [] l.row;
}
