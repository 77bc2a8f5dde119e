use Rattle.std.proofs.Common.{arith}
use Rattle.rs_measure.proofs.FixedPoint.{digit_in_range}
use Rattle.rs_csv_lines.proofs.Units.{number_from_more}
use Rattle.rs_csv_lines.proofs.numbers.read_more.Goals as goal

pub overflow_sub-digit : goal.overflow_sub-digit
overflow_sub-digit c = (digit_in_range c.args.digits.now c.loop-digit.digit-index c.requires.digits c.loop-digit-test.true).0

pub loop-digit-preserved : goal.loop-digit-preserved
loop-digit-preserved c = record {
  value = omega (arith, number_from_more c.args.number c.args.digits.now c.loop-digit.digit-index c.loop-digit-test.true, c.loop-digit.invariant.value, c.from.ensures);
  in_range = c.if-more-greatest.false;
}
