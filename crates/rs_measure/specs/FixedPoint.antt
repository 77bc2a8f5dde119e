-- Texts of numbers with a fixed point: whole digits and, if wanted, a point and decimals.
use Rattle.std.specs.Prelude.{◌≡◌, ℕ, ◌+◌, ◌-◌, ◌*◌, ◌/◌, ◌%◌, ◌^◌, ◌≤◌, ◌⊎◌, List, [], ◌∷◌, ◌++◌, length, codes}

-- the number that decimal digits say, from the left
abbrev pub number_from : ℕ → List ℕ → ℕ
number_from n [] = n
number_from n (digit ∷ digits) = number_from (10 * n + (digit - 48)) digits

abbrev pub number_of_digits : List ℕ → ℕ
number_of_digits digits = number_from 0 digits

-- bytes that are decimal digits, each of them
abbrev pub AreDigits : List ℕ → Type 0
AreDigits [] = Unit {0}
AreDigits (byte ∷ bytes) = (48 ≤ byte) × (byte ≤ 57) × AreDigits bytes

-- digits, one at least and so many at the most
pub record AreDigitsUpTo (most : ℕ) (digits : List ℕ) : Type 0 where
  pub digits_only : AreDigits digits
  pub some : 1 ≤ length digits
  pub at_most : length digits ≤ most

-- The text is whole digits alone. The number is counted in units of the last decimal place.
pub record SaysWhole (most places : ℕ) (text : List ℕ) (number : ℕ) : Type 0 where
  pub whole : AreDigitsUpTo most text
  pub value : number ≡ 10 ^ places * number_of_digits text

-- The text is whole digits, a point and decimals.
pub record SaysParts (most places : ℕ) (text : List ℕ) (number : ℕ) (whole decimals : List ℕ) : Type 0 where
  pub whole_part : AreDigitsUpTo most whole
  pub decimal_part : AreDigitsUpTo places decimals
  pub cut : text ≡ whole ++ codes "." ++ decimals
  pub value : number ≡ 10 ^ places * number_of_digits whole + 10 ^ (places - length decimals) * number_of_digits decimals

-- The text says the number, with so many whole digits and decimals at the most.
abbrev pub SaysFixedPoint : ℕ → ℕ → List ℕ → ℕ → Type 0
SaysFixedPoint most places text number =
    SaysWhole most places text number ⊎ ((whole : List ℕ) × (decimals : List ℕ) × SaysParts most places text number whole decimals)

-- three digits of a number below a thousand
abbrev pub three_digits : ℕ → List ℕ
three_digits n = (48 + n / 100) ∷ (48 + n / 10 % 10) ∷ (48 + n % 10) ∷ []
