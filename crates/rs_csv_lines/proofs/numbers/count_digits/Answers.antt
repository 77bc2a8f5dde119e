use Rattle.std.proofs.Common.{◌∙◌, sym}
use Rattle.rs_measure.proofs.FixedPoint.{are_digits_more, digit_range_from_test}
use Rattle.rs_csv_lines.proofs.numbers.count_digits.Goals as goal

pub loop-place-preserved : goal.loop-place-preserved
loop-place-preserved c =
    let range = digit_range_from_test _ (sym c.is_ascii_digit.ensures.value ∙ c.if-not-is_ascii_digit.false) in
    are_digits_more c.args.bytes.now c.loop-place.place c.loop-place-test.true c.loop-place.invariant range.0 range.1
