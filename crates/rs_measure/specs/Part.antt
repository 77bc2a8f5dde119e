-- The text of a part: a percentage, what is read and what is printed.
use Rattle.std.specs.Prelude.{ℕ, ◌+◌, ◌/◌, ◌%◌, ◌≤◌, List, ◌∷◌, ◌++◌, codes, decimal}
use Rattle.rs_measure.specs.FixedPoint.{SaysFixedPoint, three_digits}

-- The text says a percentage in billionths of the whole: 1 to 3 digits and, if wanted, a point and 1 to 7 decimals.
abbrev pub SaysPercent : List ℕ → ℕ → Type 0
SaysPercent text billionths = SaysFixedPoint 3 7 text billionths

-- The text says the part: a percentage of at most 100.
pub record SaysPart (text : List ℕ) (billionths : ℕ) : Type 0 where
  pub percent : SaysPercent text billionths
  pub at_most_all : billionths ≤ 1000000000

-- seven digits of a number below ten millions
abbrev pub seven_digits : ℕ → List ℕ
seven_digits n = (48 + n / 1000000) ∷ three_digits (n / 1000 % 1000) ++ three_digits (n % 1000)

-- how a part is printed, without the percent sign: seven decimals, and one digit at least before the point
abbrev pub part_text : ℕ → List ℕ
part_text billionths = decimal (billionths / 10000000) ++ codes "." ++ seven_digits (billionths % 10000000)
