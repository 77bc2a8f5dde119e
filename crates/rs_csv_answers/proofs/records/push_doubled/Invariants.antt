use Rattle.std.proofs.Common.{◌≡◌, ◌++◌, drop, false}
use Rattle.rs_csv_answers.specs.Records.{marks_doubled, quotes_single}
use Rattle.rs_csv_answers.proofs.records.push_doubled.Given as goal

abbrev pub invariant-loop-byte : goal.invariant-loop-byte
invariant-loop-byte l = l.text.items ++ marks_doubled (quotes_single l.is_second (drop l.byte-index l.inner)) ≡ l.fn.text.items ++ marks_doubled (quotes_single false l.inner)
