-- Which numbers are measures, and the text of one: what is read, and what is printed.
use Rattle.std.specs.Prelude.{ℕ, ◌≤◌, ◌/◌, ◌%◌, List, ◌++◌, codes, decimal}
use Rattle.rs_measure.specs.declared.measure.TheConstants.{GREATEST_MEASURE}
use Rattle.rs_measure.specs.FixedPoint.{SaysFixedPoint, three_digits}

-- a number of thousandths up to the greatest
abbrev pub IsMeasure : ℕ → Type 0
IsMeasure thousandths = thousandths ≤ GREATEST_MEASURE

-- The text says the measure in thousandths: 1 to 6 digits and, if wanted, a point and 1 to 3 decimals.
abbrev pub SaysMeasure : List ℕ → ℕ → Type 0
SaysMeasure text thousandths = SaysFixedPoint 6 3 text thousandths

-- how a measure is printed: three decimals, and one digit at least before the point
abbrev pub measure_text : ℕ → List ℕ
measure_text thousandths = decimal (thousandths / 1000) ++ codes "." ++ three_digits (thousandths % 1000)
