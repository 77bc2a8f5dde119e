-- A text says a number, or it says none.
use Rattle.std.proofs.Common.{◌≡◌, ℕ, ◌+◌, ◌-◌, ◌*◌, ◌^◌, ◌<◌, ◌≤◌, List, [], ◌∷◌, ◌++◌, length, get_or, refl, sym, ap, ◌∙◌, inl, inr, ⊎_elim, arith, append_assoc}
use Rattle.std.specs.Prelude.{◌⊎◌, not}
use Rattle.std.specs.List.{position_or_len, before_first, after_first}
use Rattle.std.proofs.lemmas.Bool.{cases_lt, eqb-true}
use Rattle.std.proofs.lemmas.List.Sums.{prefix_len-le-length, split_at_first, passes_at_first}
use Rattle.rs_measure.specs.FixedPoint.{number_of_digits, AreDigits, AreDigitsUpTo, SaysFixedPoint}
use Rattle.rs_measure.specs.Measure.{SaysMeasure}
use Rattle.rs_measure.specs.Part.{SaysPercent, SaysPart}
use Rattle.rs_measure.proofs.FixedPoint.{is_point, unsaid_without_point, unsaid_whole, unsaid_decimals}
use Rattle.rs_measure.proofs.PartText.{unsaid_percent, unsaid_above}

-- something is said, or nothing
abbrev pub Cases : {A : Type 0} → (A → Type 0) → Type 0
Cases {A} Said = ((a : A) × Said a) ⊎ ((a : A) → Said a → ⊥)

abbrev OrNot : Type 0 → Type 0
OrNot A = A ⊎ (A → ⊥)

digit_more : (digit : ℕ) (digits : List ℕ) → (digit < 48) ⊎ (48 ≤ digit) → (57 < digit) ⊎ (digit ≤ 57) → OrNot (AreDigits digits) → OrNot (AreDigits (digit ∷ digits))
digit_more digit digits (inl below) above rest = inr (λ are. omega (arith, are.0))
digit_more digit digits (inr low) (inl above) rest = inr (λ are. omega (arith, are.1))
digit_more digit digits (inr low) (inr high) (inl rest) = inl (low, high, rest)
digit_more digit digits (inr low) (inr high) (inr none) = inr (λ are. none are.2)

digits_cases : (digits : List ℕ) → OrNot (AreDigits digits)
digits_cases [] = inl tt
digits_cases (digit ∷ digits) = digit_more digit digits (cases_lt digit 48) (cases_lt 57 digit) (digits_cases digits)

-- Digits, so many at the most.
counted_more : (most : ℕ) (digits : List ℕ) → OrNot (AreDigits digits) → (length digits < 1) ⊎ (1 ≤ length digits) → (most < length digits) ⊎ (length digits ≤ most) → OrNot (AreDigitsUpTo most digits)
counted_more most digits (inr none) some few = inr (λ are. none are.digits_only)
counted_more most digits (inl are) (inl none) few = inr (λ counted. omega (arith, counted.some))
counted_more most digits (inl are) (inr some) (inl many) = inr (λ counted. omega (arith, counted.at_most))
counted_more most digits (inl are) (inr some) (inr few) = inl (record { digits_only = are; some = some; at_most = few })

counted_cases : (most : ℕ) (digits : List ℕ) → OrNot (AreDigitsUpTo most digits)
counted_cases most digits = counted_more most digits (digits_cases digits) (cases_lt (length digits) 1) (cases_lt most (length digits))

-- A text is cut at its first point, or has none.
abbrev whole_of : List ℕ → List ℕ
whole_of bytes = before_first is_point bytes

abbrev decimals_of : List ℕ → List ℕ
decimals_of bytes = after_first is_point bytes

cut_at_point : (bytes : List ℕ) → position_or_len is_point bytes < length bytes → bytes ≡ whole_of bytes ++ 46 ∷ [] ++ decimals_of bytes
cut_at_point bytes point =
    let found : get_or bytes (position_or_len is_point bytes) 0 ≡ 46 = eqb-true _ 46 (passes_at_first is_point bytes 0 point) in
    split_at_first is_point bytes 0 point ∙ ap (λ byte. whole_of bytes ++ byte ∷ decimals_of bytes) found ∙ sym (append_assoc (whole_of bytes) (46 ∷ []) (decimals_of bytes))

no_point : (bytes : List ℕ) → length bytes ≤ position_or_len is_point bytes → position_or_len is_point bytes ≡ length bytes
no_point bytes none = omega (arith, prefix_len-le-length (λ byte. not (is_point byte)) bytes)

-- The text says a number with a fixed point, or none.
without_point : (most places : ℕ) (bytes : List ℕ) → position_or_len is_point bytes ≡ length bytes → OrNot (AreDigitsUpTo most bytes) → Cases (SaysFixedPoint most places bytes)
without_point most places bytes whole (inl are) = inl (10 ^ places * number_of_digits bytes, inl (record { whole = are; value = refl }))
without_point most places bytes whole (inr none) = inr (unsaid_without_point most places bytes whole none)

with_point : (most places : ℕ) (bytes : List ℕ) → position_or_len is_point bytes < length bytes → OrNot (AreDigitsUpTo most (whole_of bytes)) → OrNot (AreDigitsUpTo places (decimals_of bytes)) → Cases (SaysFixedPoint most places bytes)
with_point most places bytes point (inr none) decimals = inr (unsaid_whole most places bytes (whole_of bytes) refl point none)
with_point most places bytes point (inl whole) (inr none) = inr (unsaid_decimals most places bytes (decimals_of bytes) refl point none)
with_point most places bytes point (inl whole) (inl decimals) =
    inl (
      10 ^ places * number_of_digits (whole_of bytes) + 10 ^ (places - length (decimals_of bytes)) * number_of_digits (decimals_of bytes),
      inr (whole_of bytes, decimals_of bytes, record { whole_part = whole; decimal_part = decimals; cut = cut_at_point bytes point; value = refl }),
    )

fixed_point_cases : (most places : ℕ) (bytes : List ℕ) → Cases (SaysFixedPoint most places bytes)
fixed_point_cases most places bytes =
    ⊎_elim
    (λ point. with_point most places bytes point (counted_cases most (whole_of bytes)) (counted_cases places (decimals_of bytes)))
    (λ none. without_point most places bytes (no_point bytes none) (counted_cases most bytes))
    (cases_lt (position_or_len is_point bytes) (length bytes))

-- The text says a measure, or none.
pub measure_cases : (bytes : List ℕ) → Cases (SaysMeasure bytes)
measure_cases bytes = fixed_point_cases 6 3 bytes

-- The text says a part, or none.
part_of_percent : (bytes : List ℕ) → Cases (SaysPercent bytes) → Cases (SaysPart bytes)
part_of_percent bytes (inr none) = inr (unsaid_percent bytes none)
part_of_percent bytes (inl said) =
    ⊎_elim
    (λ above. inr (unsaid_above bytes said.0 said.1 above))
    (λ most. inl (said.0, record { percent = said.1; at_most_all = most }))
    (cases_lt 1000000000 said.0)

pub part_cases : (bytes : List ℕ) → Cases (SaysPart bytes)
part_cases bytes = part_of_percent bytes (fixed_point_cases 3 7 bytes)
