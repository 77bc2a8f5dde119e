use Rattle.std.proofs.Common.{◌≡◌, take}
use Rattle.rs_measure.specs.FixedPoint.{AreDigits, number_of_digits}
use Rattle.rs_measure.proofs.digits.read_digits.Given as goal

abbrev pub invariant-loop-digit : goal.invariant-loop-digit
invariant-loop-digit l = record {
  digits : AreDigits (take l.digit-index l.digits);
  value : l.number ≡ number_of_digits (take l.digit-index l.digits);
}
