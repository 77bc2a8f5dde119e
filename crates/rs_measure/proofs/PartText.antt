-- Laws of the text of a part: what it says, that it says one part, and how long it is.
use Rattle.std.proofs.Common.{◌≡◌, ℕ, ◌+◌, ◌-◌, ◌*◌, ◌/◌, ◌%◌, ◌<◌, ◌≤◌, List, [], ◌∷◌, ◌++◌, Result, Ok, Err, OnErr, length, codes, decimal, refl, ◌∙◌, inr, arith, length-append}
use Rattle.std.proofs.lemmas.Fmt.{digits_decimal, digits_value-decimal, length-decimal-le, decimal_nonempty}
use Rattle.rs_refusal.specs.declared.refusal.Refusal.{Refusal}
use Rattle.rs_measure.specs.FixedPoint.{number_from, number_of_digits, three_digits}
use Rattle.rs_measure.specs.Part.{SaysPercent, SaysPart, seven_digits, part_text}
use Rattle.rs_measure.proofs.FixedPoint.{numerals, says_one_number}

-- A text says one percentage at the most, and so one part.
pub says_one_part : (text : List ℕ) (a b : ℕ) → SaysPart text a → SaysPart text b → a ≡ b
says_one_part text a b said again = says_one_number 3 7 text a b said.percent again.percent

-- A text that says no percentage says no part, nor does one that says too large a percentage.
pub unsaid_percent : (text : List ℕ) → ((n : ℕ) → SaysPercent text n → ⊥) → (n : ℕ) → SaysPart text n → ⊥
unsaid_percent text unsaid n said = unsaid n said.percent

pub unsaid_above : (text : List ℕ) (large : ℕ) → SaysPercent text large → 1000000000 < large → (n : ℕ) → SaysPart text n → ⊥
unsaid_above text large percent above n said =
    let same : n ≡ large = says_one_number 3 7 text n large said.percent percent in omega (arith, said.at_most_all)

pub on_err_above : (text : List ℕ) (large : ℕ) (r : Result ℕ Refusal) → SaysPercent text large → OnErr r (1000000000 < large) → OnErr r ((n : ℕ) → SaysPart text n → ⊥)
on_err_above text large (Ok part) percent above = tt
on_err_above text large (Err refusal) percent above = unsaid_above text large percent above

-- The digits of a text one after another say one number.
pub number_from-append : (n : ℕ) (digits more : List ℕ) → number_from n (digits ++ more) ≡ number_from (number_from n digits) more
number_from-append n [] more = refl
number_from-append n (d ∷ ds) more = number_from-append (10 * n + (d - 48)) ds more

pub number_from-three_digits : (n number : ℕ) → number < 1000 → number_from n (three_digits number) ≡ 1000 * n + number
number_from-three_digits n number below = omega arith

pub number_of-seven_digits : (number : ℕ) → number < 10000000 → number_of_digits (seven_digits number) ≡ number
number_of-seven_digits number below =
    let first : ℕ = 10 * 0 + (48 + number / 1000000 - 48) in
    let upper : number_from first (three_digits (number / 1000 % 1000)) ≡ 1000 * first + number / 1000 % 1000 = number_from-three_digits first (number / 1000 % 1000) (omega arith) in
    let lower : (n : ℕ) → number_from n (three_digits (number % 1000)) ≡ 1000 * n + number % 1000 = λ n. number_from-three_digits n (number % 1000) (omega arith) in
    let joined : number_of_digits (seven_digits number) ≡ number_from (number_from first (three_digits (number / 1000 % 1000))) (three_digits (number % 1000)) = number_from-append first (three_digits (number / 1000 % 1000)) (three_digits (number % 1000)) in
    joined ∙ (lower (number_from first (three_digits (number / 1000 % 1000))) ∙ omega (arith, upper))

-- The whole part of what is printed has at most three digits, and all of it at most eleven bytes.
pub whole_digits_short : (n : ℕ) → n ≤ 1000000000 → length (decimal (n / 10000000)) ≤ 3
whole_digits_short n in_range = length-decimal-le 3 (n / 10000000) (omega arith) (omega arith) (omega arith)

pub length-part_text-le : (n : ℕ) → n ≤ 1000000000 → length (part_text n) ≤ 11
length-part_text-le n in_range =
    omega (arith, whole_digits_short n in_range, length-append (decimal (n / 10000000) ++ codes ".") (seven_digits (n % 10000000)), length-append (decimal (n / 10000000)) (codes "."))

-- What is printed says the part.
pub says_part_text : (n : ℕ) → n ≤ 1000000000 → SaysPart (part_text n) n
says_part_text n in_range = record {
  percent = inr (
    decimal (n / 10000000),
    seven_digits (n % 10000000),
    record {
      whole_part = record {
        digits_only = digits_decimal numerals (n / 10000000) (omega arith);
        some = decimal_nonempty (n / 10000000) (omega arith);
        at_most = whole_digits_short n in_range;
      };
      decimal_part = record { digits_only = (omega arith, omega arith, (omega arith, omega arith, (omega arith, omega arith, (omega arith, omega arith, (omega arith, omega arith, (omega arith, omega arith, (omega arith, omega arith, tt))))))); some = omega arith; at_most = omega arith };
      cut = refl;
      value = let back : number_of_digits (decimal (n / 10000000)) ≡ n / 10000000 = digits_value-decimal numerals (n / 10000000) (omega arith) in omega (arith, back, number_of-seven_digits (n % 10000000) (omega arith));
    },
  );
  at_most_all = in_range;
}
