-- Laws of the text of a measure: what it says, and how long it is.
use Rattle.std.proofs.Common.{◌≡◌, ℕ, ◌/◌, ◌%◌, ◌≤◌, ◌++◌, length, codes, decimal, refl, inr, arith, length-append}
use Rattle.std.proofs.lemmas.Fmt.{digits_decimal, digits_value-decimal, length-decimal-le, decimal_nonempty}
use Rattle.rs_measure.specs.FixedPoint.{number_of_digits, three_digits}
use Rattle.rs_measure.specs.Measure.{SaysMeasure, measure_text}
use Rattle.rs_measure.proofs.FixedPoint.{numerals}

-- The whole part of what is printed has at most six digits, and all of it at most ten bytes.
pub whole_digits_short : (n : ℕ) → n ≤ 999999999 → length (decimal (n / 1000)) ≤ 6
whole_digits_short n in_range = length-decimal-le 6 (n / 1000) (omega arith) (omega arith) (omega arith)

pub length-measure_text-le : (n : ℕ) → n ≤ 999999999 → length (measure_text n) ≤ 10
length-measure_text-le n in_range =
    omega (arith, whole_digits_short n in_range, length-append (decimal (n / 1000) ++ codes ".") (three_digits (n % 1000)), length-append (decimal (n / 1000)) (codes "."))

-- What is printed says the measure.
pub says_measure_text : (n : ℕ) → n ≤ 999999999 → SaysMeasure (measure_text n) n
says_measure_text n in_range = inr (
  decimal (n / 1000),
  three_digits (n % 1000),
  record {
    whole_part = record {
      digits_only = digits_decimal numerals (n / 1000) (omega arith);
      some = decimal_nonempty (n / 1000) (omega arith);
      at_most = whole_digits_short n in_range;
    };
    decimal_part = record { digits_only = (omega arith, omega arith, (omega arith, omega arith, (omega arith, omega arith, tt))); some = omega arith; at_most = omega arith };
    cut = refl;
    value = let back : number_of_digits (decimal (n / 1000)) ≡ n / 1000 = digits_value-decimal numerals (n / 1000) (omega arith) in omega (arith, back);
  },
)
