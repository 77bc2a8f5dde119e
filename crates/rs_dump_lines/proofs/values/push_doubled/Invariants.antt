use Rattle.std.proofs.Common.{◌≡◌, ◌++◌, drop}
use Rattle.rs_value.specs.Text.{quotes_doubled}
use Rattle.rs_dump_lines.proofs.values.push_doubled.Given as goal

abbrev pub invariant-loop-byte : goal.invariant-loop-byte
invariant-loop-byte l = l.text.items ++ quotes_doubled (drop l.byte-index l.quoted) ≡ l.fn.text.items ++ quotes_doubled l.quoted
