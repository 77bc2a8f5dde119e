use Rattle.std.proofs.Common.{take}
use Rattle.rs_measure.specs.FixedPoint.{AreDigits}
use Rattle.rs_csv_lines.proofs.numbers.count_digits.Given as goal

abbrev pub invariant-loop-place : goal.invariant-loop-place
invariant-loop-place l = AreDigits (take l.place l.bytes)
