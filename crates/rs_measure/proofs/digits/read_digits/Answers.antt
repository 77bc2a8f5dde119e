use Rattle.std.proofs.Common.{◌≤◌, ◌∙◌, sym, get_or, take, length, arith}
use Rattle.std.proofs.lemmas.List.{length-take}
use Rattle.rs_measure.proofs.FixedPoint.{digit_in_range, number_of_digits_short, are_digits_more, number_of_digits_more, digit_range_from_test, no_digit_from_test}
use Rattle.rs_measure.proofs.digits.read_digits.Goals as goal

pub returns-then-not-is_ascii_digit-clause-none : goal.returns-then-not-is_ascii_digit-clause-none
returns-then-not-is_ascii_digit-clause-none c = λ digits.
    let range : (48 ≤ get_or c.args.digits.now c.loop-digit.digit-index 0) × (get_or c.args.digits.now c.loop-digit.digit-index 0 ≤ 57) = digit_in_range _ _ digits c.loop-digit-test.true in
    no_digit_from_test _ (sym c.is_ascii_digit.ensures.value ∙ c.if-not-is_ascii_digit.true) range.0 range.1

pub overflow_mul-number : goal.overflow_mul-number
overflow_mul-number c = omega (arith, number_of_digits_short (take c.loop-digit.digit-index c.args.digits.now) 8 c.loop-digit.invariant.digits (omega (arith, length-take c.loop-digit.digit-index c.args.digits.now)))

pub overflow_add-number : goal.overflow_add-number
overflow_add-number c =
    let range : (48 ≤ get_or c.args.digits.now c.loop-digit.digit-index 0) × (get_or c.args.digits.now c.loop-digit.digit-index 0 ≤ 57) = digit_range_from_test _ (sym c.is_ascii_digit.ensures.value ∙ c.if-not-is_ascii_digit.false) in
    omega (arith, range.1, number_of_digits_short (take c.loop-digit.digit-index c.args.digits.now) 8 c.loop-digit.invariant.digits (omega (arith, length-take c.loop-digit.digit-index c.args.digits.now)))

pub loop-digit-preserved : goal.loop-digit-preserved
loop-digit-preserved c =
    let range : (48 ≤ get_or c.args.digits.now c.loop-digit.digit-index 0) × (get_or c.args.digits.now c.loop-digit.digit-index 0 ≤ 57) = digit_range_from_test _ (sym c.is_ascii_digit.ensures.value ∙ c.if-not-is_ascii_digit.false) in
    record {
      digits = are_digits_more c.args.digits.now c.loop-digit.digit-index c.loop-digit-test.true c.loop-digit.invariant.digits range.0 range.1;
      value = omega (arith, number_of_digits_more c.args.digits.now c.loop-digit.digit-index c.loop-digit-test.true);
    }

pub returns-clause-in_range : goal.returns-clause-in_range
returns-clause-in_range c = omega (arith, number_of_digits_short (take c.loop-digit.digit-index c.args.digits.now) (length c.args.digits.now) c.loop-digit.invariant.digits (omega (arith, length-take c.loop-digit.digit-index c.args.digits.now)))
