-- The text of a position: what it says.
use Rattle.std.specs.Prelude.{◌≡◌, ℕ, ◌≤◌, ◌⊎◌, List, [], ◌∷◌, ◌++◌, codes}
pub use Rattle.rs_grammar.specs.Words.{IsWord}
use Rattle.rs_measure.specs.declared.measure.TheConstants.{GREATEST_MEASURE}
use Rattle.rs_measure.specs.declared.part.TheConstants.{GREATEST_PART}
use Rattle.rs_measure.specs.Measure.{SaysMeasure}
use Rattle.rs_measure.specs.Part.{SaysPart}
use Rattle.rs_methods.specs.Position.{PositionExpression, absolute, beyond, before, interpolative}

-- `@` and a name alone: the place of that referent
pub record SaysReferent (text name : List ℕ) (measure : ℕ) : Type 0 where
  pub name_is_word : IsWord name
  pub cut : text ≡ codes "@" ++ name
  pub nothing_beyond : measure ≡ 0

-- `@`, a name, a sign and a measure
pub record SaysSigned (sign text name : List ℕ) (measure : ℕ) (number : List ℕ) : Type 0 where
  pub name_is_word : IsWord name
  pub cut : text ≡ codes "@" ++ name ++ sign ++ number
  pub measure_said : SaysMeasure number measure

-- a part and `%`
pub record SaysPercentage (text : List ℕ) (part : ℕ) (number : List ℕ) : Type 0 where
  pub cut : text ≡ number ++ codes "%"
  pub part_said : SaysPart number part

-- The text says the position.
abbrev pub TextSaysPosition : List ℕ → PositionExpression → Type 0
TextSaysPosition text (absolute measure) = SaysMeasure text measure
TextSaysPosition text (beyond name measure) = SaysReferent text name measure ⊎ ((number : List ℕ) × SaysSigned (codes "+") text name measure number)
TextSaysPosition text (before name measure) = (number : List ℕ) × SaysSigned (codes "-") text name measure number
TextSaysPosition text (interpolative part) = (number : List ℕ) × SaysPercentage text part number

-- A position that can be printed: its name a word, its measure at most the greatest, its part at most all.
abbrev pub IsPrintable : PositionExpression → Type 0
IsPrintable (absolute measure) = measure ≤ GREATEST_MEASURE
IsPrintable (beyond name measure) = IsWord name × (measure ≤ GREATEST_MEASURE)
IsPrintable (before name measure) = IsWord name × (measure ≤ GREATEST_MEASURE)
IsPrintable (interpolative part) = part ≤ GREATEST_PART

-- Names that a position's text can show: the name of each referent of the list is a word.
abbrev pub AreWords : List (List ℕ × ℕ) → Type 0
AreWords [] = Unit {0}
AreWords (referent ∷ referents) = IsWord referent.0 × AreWords referents
