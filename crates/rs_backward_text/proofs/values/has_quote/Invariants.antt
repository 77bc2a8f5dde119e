-- No quote so far.
use Rattle.std.proofs.Common.{◌≡◌, drop}
use Rattle.rs_value.specs.Text.{quotes_doubled}
use Rattle.rs_backward_text.proofs.values.has_quote.Given as goal

abbrev pub invariant-loop-byte : goal.invariant-loop-byte
invariant-loop-byte l = quotes_doubled (drop l.byte-index l.bytes) ≡ drop l.byte-index l.bytes → quotes_doubled l.bytes ≡ l.bytes
