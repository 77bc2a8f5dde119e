use Rattle.std.proofs.Common.{◌≡◌, ◌≤◌, drop}
use Rattle.rs_measure.specs.FixedPoint.{number_from, number_of_digits}
use Rattle.rs_meaning.proofs.meaning.number.Given as goal

abbrev pub invariant-loop-byte : goal.invariant-loop-byte
invariant-loop-byte l = record {
  value : number_from l.number (drop l.byte-index l.byte-items) ≡ number_of_digits l.byte-items;
  small : l.number ≤ l.most;
}
