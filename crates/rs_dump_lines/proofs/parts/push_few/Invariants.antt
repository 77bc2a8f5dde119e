use Rattle.std.proofs.Common.{◌≡◌, ◌++◌, drop}
use Rattle.rs_dump_lines.proofs.parts.push_few.Given as goal

abbrev pub invariant-loop-byte : goal.invariant-loop-byte
invariant-loop-byte l = l.text.items ++ drop l.byte-index l.bytes ≡ l.fn.text.items ++ l.bytes
