use Rattle.std.proofs.Common.{◌<◌, arith, get_or}
use Rattle.rs_measure.proofs.FixedPoint.{digit_in_range, number_of_digits_more}
use Rattle.rs_csv_lines.proofs.Units.{some_digit}
use Rattle.rs_csv_lines.proofs.numbers.are_zeros.Goals as goal

pub returns-then-digit-ne48 : goal.returns-then-digit-ne48
returns-then-digit-ne48 c =
    let range = digit_in_range c.args.digits.now c.loop-digit.digit-index c.requires c.loop-digit-test.true in
    let more : 48 < get_or c.args.digits.now c.loop-digit.digit-index 0 = grind (arith, range.0, c.if-digit-ne48.true) in
    let some = some_digit c.args.digits.now c.loop-digit.digit-index c.loop-digit-test.true c.requires more in
    (λ e. absurd cc, λ none. absurd (omega (arith, some, none)))

pub loop-digit-preserved : goal.loop-digit-preserved
loop-digit-preserved c = omega (arith, number_of_digits_more c.args.digits.now c.loop-digit.digit-index c.loop-digit-test.true, c.loop-digit.invariant, c.if-digit-ne48.false)
