use Rattle.std.proofs.Common.{◌≡◌, take}
use Rattle.rs_measure.specs.FixedPoint.{number_of_digits}
use Rattle.rs_csv_lines.proofs.numbers.are_zeros.Given as goal

abbrev pub invariant-loop-digit : goal.invariant-loop-digit
invariant-loop-digit l = number_of_digits (take l.digit-index l.digits) ≡ 0
