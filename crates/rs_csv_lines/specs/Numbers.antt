-- Numbers as offices write them: `.5`, `1.`, `+1` and `1.1000` beside `1.1`.
use Rattle.std.specs.Prelude.{◌≡◌, ℕ, ◌+◌, ◌*◌, ◌%◌, ◌^◌, ◌<◌, ◌≤◌, ◌==◌, ◌⊎◌, Bool, true, false, List, [], ◌∷◌, ◌++◌, length, codes, Some}
use Rattle.std.specs.List.{list_any}
use Rattle.rs_measure.specs.FixedPoint.{number_of_digits, AreDigits}
use Rattle.rs_measure.specs.Measure.{IsMeasure}
use Rattle.rs_csv_lines.specs.declared.numbers.Rest.{Rest}
use Rattle.rs_csv_lines.specs.declared.numbers.Rest.TheVariants as rests
use Rattle.rs_csv_lines.specs.declared.plan.Measures.{Measures}
use Rattle.rs_csv_lines.specs.declared.plan.Scale.{Scale}
use Rattle.rs_csv_lines.specs.declared.plan.Scale.TheVariants as scales

-- blanks alone
abbrev pub AreBlanks : List ℕ → Type 0
AreBlanks [] = Unit {0}
AreBlanks (byte ∷ bytes) = (byte ≡ 32) × AreBlanks bytes

-- a minus sign; or a plus sign, or none
abbrev pub IsSign : Bool → List ℕ → Type 0
IsSign true sign = sign ≡ codes "-"
IsSign false sign = (sign ≡ []) ⊎ (sign ≡ codes "+")

-- whole digits, a point and decimals; or whole digits alone
abbrev pub ArePointed : List ℕ → List ℕ → List ℕ → Type 0
ArePointed digits whole decimals = (digits ≡ whole ++ codes "." ++ decimals) ⊎ ((digits ≡ whole) × (decimals ≡ []))

-- The text is a number: a sign or none, and whole digits and decimals, one of them at least. Blanks may stand around it.
pub record WritesNumber (text : List ℕ) (is_negative : Bool) (whole decimals : List ℕ) : Type 0 where
  pub before : List ℕ
  pub sign : List ℕ
  pub digits : List ℕ
  pub behind : List ℕ
  pub cut : text ≡ before ++ (sign ++ (digits ++ behind))
  pub blank_before : AreBlanks before
  pub blank_behind : AreBlanks behind
  pub sign_is : IsSign is_negative sign
  pub pointed : ArePointed digits whole decimals
  pub whole_digits : AreDigits whole
  pub decimal_digits : AreDigits decimals
  pub some : 1 ≤ length whole + length decimals

-- ---- in units, of which 10 ^ places are one

-- The digits are just so many units: zeros after the last place are no precision.
abbrev pub AreUnits : ℕ → List ℕ → List ℕ → ℕ → Type 0
AreUnits places whole decimals units = number_of_digits (whole ++ decimals) * 10 ^ places ≡ units * 10 ^ length decimals

-- No number of units is nearer to the digits, and of two that are as near this is the even one.
pub record AreNearestUnits (places : ℕ) (whole decimals : List ℕ) (units : ℕ) : Type 0 where
  pub not_above : 2 * units * 10 ^ length decimals ≤ 2 * (number_of_digits (whole ++ decimals) * 10 ^ places) + 10 ^ length decimals
  pub not_below : 2 * (number_of_digits (whole ++ decimals) * 10 ^ places) ≤ 2 * units * 10 ^ length decimals + 10 ^ length decimals
  pub even_above : 2 * units * 10 ^ length decimals ≡ 2 * (number_of_digits (whole ++ decimals) * 10 ^ places) + 10 ^ length decimals → units % 2 ≡ 0
  pub even_below : 2 * (number_of_digits (whole ++ decimals) * 10 ^ places) ≡ 2 * units * 10 ^ length decimals + 10 ^ length decimals → units % 2 ≡ 0

-- what digits after the last place come to, of one unit
abbrev pub IsRest : Rest → List ℕ → Type 0
IsRest rests.Nothing digits = number_of_digits digits ≡ 0
IsRest rests.BelowHalf digits = 2 * number_of_digits digits < 10 ^ length digits
IsRest rests.Half digits = 2 * number_of_digits digits ≡ 10 ^ length digits
IsRest rests.AboveHalf digits = 10 ^ length digits < 2 * number_of_digits digits

-- what so many units become by what comes after them: the nearest number, the even one of two
abbrev pub IsRounded : ℕ → Rest → ℕ → Type 0
IsRounded low rests.Nothing units = units ≡ low
IsRounded low rests.BelowHalf units = units ≡ low
IsRounded low rests.Half units = units ≡ low + low % 2
IsRounded low rests.AboveHalf units = units ≡ low + 1

-- what the digits are read as
abbrev pub AreReadUnits : (rounds : Bool) → ℕ → List ℕ → List ℕ → ℕ → Type 0
AreReadUnits false places whole decimals units = AreUnits places whole decimals units
AreReadUnits true places whole decimals units = AreNearestUnits places whole decimals units

-- The text is a number of so many thousandths; to the nearest one where it is rounded.
pub record WritesPlain (rounds : Bool) (text : List ℕ) (thousandths : ℕ) : Type 0 where
  pub whole : List ℕ
  pub decimals : List ℕ
  pub written : WritesNumber text false whole decimals
  pub read : AreReadUnits rounds 3 whole decimals thousandths
  pub in_range : IsMeasure thousandths

-- no byte of the text is a sign
abbrev pub HasNoSign : List ℕ → Type 0
HasNoSign text = (list_any (λ byte. byte == 43) text ≡ false) × (list_any (λ byte. byte == 45) text ≡ false)

-- The text is such a number, which has no sign of its own.
abbrev pub WritesUnsigned : Bool → List ℕ → ℕ → Type 0
WritesUnsigned rounds text thousandths = WritesPlain rounds text thousandths × HasNoSign text

-- The text is a number of stations, a plus sign, and what is beyond them, where a station has so many units.
pub record WritesStations (rounds : Bool) (units : ℕ) (text : List ℕ) (thousandths : ℕ) : Type 0 where
  pub front : List ℕ
  pub rest : List ℕ
  pub cut : text ≡ front ++ codes "+" ++ rest
  pub whole : List ℕ
  pub stations : WritesNumber front false whole []
  pub beyond : ℕ
  pub written : WritesPlain rounds rest beyond
  pub is : thousandths ≡ number_of_digits whole * (1000 * units) + beyond
  pub in_range : IsMeasure thousandths

-- The text is a measure of so many thousandths: a number, or stations where they are read.
abbrev pub WritesMeasure : Measures → List ℕ → ℕ → Type 0
WritesMeasure reading text thousandths = WritesPlain reading.rounds text thousandths
    ⊎ ((units : ℕ) × (reading.stations ≡ Some units) × WritesStations reading.rounds units text thousandths)

-- ---- numbers that are multiplied

-- how many zeros a scale has
abbrev pub places_of : Scale → ℕ
places_of scales.One = 0
places_of scales.Ten = 1
places_of scales.Hundred = 2
places_of scales.Thousand = 3
places_of scales.TenThousand = 4
places_of scales.HundredThousand = 5
places_of scales.Million = 6

-- it in digits
abbrev pub scale_text : Scale → List ℕ
scale_text scales.One = codes "1"
scale_text scales.Ten = codes "10"
scale_text scales.Hundred = codes "100"
scale_text scales.Thousand = codes "1000"
scale_text scales.TenThousand = codes "10000"
scale_text scales.HundredThousand = codes "100000"
scale_text scales.Million = codes "1000000"

-- The text times the scale is this whole number of at most 10^12, after a minus sign or not.
pub record WritesWhole (scale : Scale) (text : List ℕ) (is_negative : Bool) (amount : ℕ) : Type 0 where
  pub whole : List ℕ
  pub decimals : List ℕ
  pub written : WritesNumber text is_negative whole decimals
  pub read : AreUnits (places_of scale) whole decimals amount
  pub few : amount ≤ 10 ^ 12
