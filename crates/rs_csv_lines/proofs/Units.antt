-- Laws of numbers as offices write them.
use Rattle.std.proofs.Common.{◌≡◌, ◌∙◌, ◌⊎◌, ℕ, suc, ◌+◌, ◌-◌, ◌*◌, ◌%◌, ◌^◌, min, ◌<◌, ◌≤◌, Bool, true, false, List, [], ◌∷◌, ◌++◌, length, take, get_or, inl, inr, sym, subst, refl, ap, arith, append_assoc, codes, drop, length-append, Fits, w64}
use Rattle.std.proofs.lemmas.List.{take_more, take_all, take-append-drop}
use Rattle.std.proofs.lemmas.Nat.{pow-add}
use native.Mathlib.Numerals.{unary_clauses}
use Rattle.std.specs.Prelude.{◌==◌, ◌↔◌}
use Rattle.std.proofs.lemmas.Bool.{eqb-true, false≢true}
use Rattle.std.proofs.lemmas.Bool.Decides.{nat_tests}
use Rattle.std.proofs.Math.Nat.{mul-le-mul_right, pow-le-pow_right}
use Rattle.rs_measure.specs.FixedPoint.{AreDigits, number_from, number_of_digits}
use Rattle.rs_measure.proofs.FixedPoint.{number_from_push, number_of_digits_short, power_is_positive}
use Rattle.rs_csv_lines.specs.declared.numbers.Rest.{Rest}
use Rattle.rs_csv_lines.specs.declared.numbers.Rest.TheVariants as rests
use Rattle.rs_csv_lines.specs.Numbers.{AreBlanks, AreNearestUnits, AreReadUnits, AreUnits, IsRest, IsRounded, IsSign, WritesNumber}

blanks_push : (bytes : List ℕ) (byte : ℕ) → AreBlanks bytes → byte ≡ 32 → AreBlanks (bytes ++ byte ∷ [])
blanks_push [] byte are is = (is, tt)
blanks_push (b ∷ bs) byte are is = (are.0, blanks_push bs byte are.1 is)

-- one more blank
pub blanks_more : (bytes : List ℕ) (i : ℕ) → i < length bytes → AreBlanks (take i bytes) → get_or bytes i 0 ≡ 32 → AreBlanks (take (i + 1) bytes)
blanks_more bytes i within are is = subst AreBlanks (sym (take_more bytes i 0 within)) (blanks_push (take i bytes) (get_or bytes i 0) are is)

-- The parts that were cut off, one after another, are the text.
pub joined : (text before signed sign unsigned whole pointed digits behind : List ℕ) → text ≡ before ++ signed → signed ≡ sign ++ unsigned → unsigned ≡ whole ++ pointed → whole ++ pointed ≡ digits ++ behind
    → text ≡ before ++ (sign ++ (digits ++ behind))
joined text before signed sign unsigned whole pointed digits behind one two three four = one ∙ ap (λ bs. before ++ bs) (two ∙ ap (λ bs. sign ++ bs) (three ∙ four))

-- what is after the whole digits: a point and decimals, or neither
abbrev pub IsPointCut : List ℕ → List ℕ → List ℕ → Type 0
IsPointCut pointed decimals behind = (pointed ≡ codes "." ++ (decimals ++ behind)) ⊎ ((decimals ≡ []) × (pointed ≡ behind))

-- blanks alone are left where no other byte is
blanks_alone : (bytes : List ℕ) (count : ℕ) → AreBlanks (take count bytes) → length bytes ≤ count → AreBlanks bytes
blanks_alone bytes count are all = subst AreBlanks (take_all count bytes all) are

pub writes_number : (text before signed sign unsigned whole pointed decimals behind : List ℕ) (is_negative : Bool) (blanks : ℕ)
    → text ≡ before ++ signed → AreBlanks before → signed ≡ sign ++ unsigned → IsSign is_negative sign → unsigned ≡ whole ++ pointed → AreDigits whole
    → IsPointCut pointed decimals behind → AreDigits decimals → 1 ≤ length whole + length decimals → AreBlanks (take blanks behind) → length behind ≤ blanks
    → WritesNumber text is_negative whole decimals
writes_number text before signed sign unsigned whole pointed decimals behind is_negative blanks one before_blank two sign_is three whole_digits (inl point) decimal_digits some behind_blank all = record {
  before = before;
  sign = sign;
  digits = whole ++ codes "." ++ decimals;
  behind = behind;
  cut = joined text before signed sign unsigned whole pointed (whole ++ codes "." ++ decimals) behind one two three
      (ap (λ bs. whole ++ bs) point ∙ sym (append_assoc whole (codes ".") (decimals ++ behind)) ∙ sym (append_assoc (whole ++ codes ".") decimals behind));
  blank_before = before_blank;
  blank_behind = blanks_alone behind blanks behind_blank all;
  sign_is = sign_is;
  pointed = inl refl;
  whole_digits = whole_digits;
  decimal_digits = decimal_digits;
  some = some;
}
writes_number text before signed sign unsigned whole pointed decimals behind is_negative blanks one before_blank two sign_is three whole_digits (inr none) decimal_digits some behind_blank all = record {
  before = before;
  sign = sign;
  digits = whole;
  behind = behind;
  cut = joined text before signed sign unsigned whole pointed whole behind one two three (ap (λ bs. whole ++ bs) none.1);
  blank_before = before_blank;
  blank_behind = blanks_alone behind blanks behind_blank all;
  sign_is = sign_is;
  pointed = inr (refl, none.0);
  whole_digits = whole_digits;
  decimal_digits = decimal_digits;
  some = some;
}

-- ---- digits

pub number_from_append : (n : ℕ) (a b : List ℕ) → number_from n (a ++ b) ≡ number_from (number_from n a) b
number_from_append n [] b = refl
number_from_append n (d ∷ ds) b = number_from_append (10 * n + (d - 48)) ds b

-- one more digit
pub number_from_more : (n : ℕ) (digits : List ℕ) (i : ℕ) → i < length digits → number_from n (take (i + 1) digits) ≡ 10 * number_from n (take i digits) + (get_or digits i 0 - 48)
number_from_more n digits i within = ap (number_from n) (take_more digits i 0 within) ∙ number_from_push n (take i digits) (get_or digits i 0)

ten_more : (k : ℕ) → 10 ^ (suc k) ≡ 10 * 10 ^ k
ten_more k = simp unary_clauses (omega arith)

-- a number and the digits after it
pub number_after : (n : ℕ) (digits : List ℕ) → number_from n digits ≡ n * 10 ^ length digits + number_of_digits digits
number_after n [] = omega arith
number_after n (d ∷ ds) =
    step (number_from (10 * n + (d - 48)) ds) (number_from (10 * 0 + (d - 48)) ds) n (d - 48) (10 ^ length ds) (number_of_digits ds) (number_after (10 * n + (d - 48)) ds) (number_after (10 * 0 + (d - 48)) ds)
    ∙ ap (λ q. n * q + number_from (10 * 0 + (d - 48)) ds) (sym (ten_more (length ds)))
  where
    step : (a b n x p r : ℕ) → a ≡ (10 * n + x) * p + r → b ≡ (10 * 0 + x) * p + r → a ≡ n * (10 * p) + b
    step a b n x p r e f = omega (arith, e, f)

pub number_of_append : (a b : List ℕ) → number_of_digits (a ++ b) ≡ number_of_digits a * 10 ^ length b + number_of_digits b
number_of_append a b = number_from_append 0 a b ∙ number_after (number_of_digits a) b

pub number_of_first : (d : ℕ) (ds : List ℕ) → number_of_digits (d ∷ ds) ≡ (d - 48) * 10 ^ length ds + number_of_digits ds
number_of_first d ds = number_after (10 * 0 + (d - 48)) ds ∙ ap (λ n. n * 10 ^ length ds + number_of_digits ds) zero_more
  where
    zero_more : 10 * 0 + (d - 48) ≡ d - 48
    zero_more = omega arith

number_grows : (n : ℕ) (digits : List ℕ) → n ≤ number_from n digits
number_grows n [] = omega arith
number_grows n (d ∷ ds) = let more = number_grows (10 * n + (d - 48)) ds in omega (arith, more)

-- a digit that is no zero
pub some_digit : (digits : List ℕ) (i : ℕ) → i < length digits → AreDigits digits → 48 < get_or digits i 0 → 1 ≤ number_of_digits digits
some_digit digits i within are more =
    let front = number_from_more 0 digits i within in
    let grows = number_grows (number_from 0 (take (i + 1) digits)) (drop (i + 1) digits) in
    let whole : number_from 0 digits ≡ number_from (number_from 0 (take (i + 1) digits)) (drop (i + 1) digits) =
    ap (number_from 0) (sym (take-append-drop (i + 1) digits)) ∙ number_from_append 0 (take (i + 1) digits) (drop (i + 1) digits) in
    omega (arith, front, grows, whole, more)

-- ---- the rest

module _ (first : ℕ) (others : List ℕ) (are : AreDigits (first ∷ others)) where
  value : number_of_digits (first ∷ others) ≡ (first - 48) * 10 ^ length others + number_of_digits others
  value = number_of_first first others

  short : number_of_digits others < 10 ^ length others
  short = number_of_digits_short others (length others) are.2 (omega arith)

  pub rest_nothing : first ≡ 48 → number_of_digits others ≡ 0 → IsRest rests.Nothing (first ∷ others)
  rest_nothing is zeros = steps first (10 ^ length others) (number_of_digits others) (number_of_digits (first ∷ others)) value is zeros
    where
      steps : (f p r n : ℕ) → n ≡ (f - 48) * p + r → f ≡ 48 → r ≡ 0 → n ≡ 0
      steps f p r n e is zeros = let none : f - 48 ≡ 0 = omega (arith, is) in e ∙ ap (λ k. k * p + r) none ∙ omega (arith, zeros)

  pub rest_half : first ≡ 53 → number_of_digits others ≡ 0 → IsRest rests.Half (first ∷ others)
  rest_half is zeros = subst (λ q. 2 * number_of_digits (first ∷ others) ≡ q) (sym (ten_more (length others))) (steps first (10 ^ length others) (number_of_digits others) (number_of_digits (first ∷ others)) value is zeros)
    where
      steps : (f p r n : ℕ) → n ≡ (f - 48) * p + r → f ≡ 53 → r ≡ 0 → 2 * n ≡ 10 * p
      steps f p r n e is zeros = let five : f - 48 ≡ 5 = omega (arith, is) in let n_is : n ≡ 5 * p + r = e ∙ ap (λ k. k * p + r) five in omega (arith, n_is, zeros)

  pub rest_below : first < 53 → IsRest rests.BelowHalf (first ∷ others)
  rest_below less = subst (λ q. 2 * number_of_digits (first ∷ others) < q) (sym (ten_more (length others))) (steps (first - 48) (10 ^ length others) (number_of_digits others) (number_of_digits (first ∷ others)) value (omega (arith, less)) short)
    where
      steps : (x p r n : ℕ) → n ≡ x * p + r → x ≤ 4 → r < p → 2 * n < 10 * p
      steps x p r n e few less = let most : x * p ≤ 4 * p = mul-le-mul_right p few in omega (arith, e, most, less)

  pub rest_above : 53 ≤ first → (first ≡ 53 → 1 ≤ number_of_digits others) → IsRest rests.AboveHalf (first ∷ others)
  rest_above more others_more = subst (λ q. q < 2 * number_of_digits (first ∷ others)) (sym (ten_more (length others)))
      (steps (first - 48) (10 ^ length others) (number_of_digits others) (number_of_digits (first ∷ others)) value (omega (arith, more)) (λ is. others_more (omega (arith, is, more))) (power_is_positive (length others)))
    where
      steps : (x p r n : ℕ) → n ≡ x * p + r → 5 ≤ x → (x ≡ 5 → 1 ≤ r) → 1 ≤ p → 10 * p < 2 * n
      steps x p r n e many some positive = by_case (x == 5) refl
        where
          by_case : (b : Bool) → x == 5 ≡ b → 10 * p < 2 * n
          by_case true is = let five = eqb-true x 5 is in let n_is : n ≡ 5 * p + r = e ∙ ap (λ k. k * p + r) five in omega (arith, n_is, some five)
          by_case false is = let six : 6 ≤ x = grind (arith, nat_tests) in let least : 6 * p ≤ x * p = mul-le-mul_right p six in omega (arith, e, least, positive)

-- ---- units

-- what the digits come to where some are left: so many units, and a part
pub more_digits : (places low : ℕ) (whole kept rest : List ℕ) → AreUnits places whole kept low
    → number_of_digits (whole ++ (kept ++ rest)) * 10 ^ places ≡ low * 10 ^ length (kept ++ rest) + number_of_digits rest * 10 ^ places
more_digits places low whole kept rest are =
    steps (number_of_digits (whole ++ (kept ++ rest))) (10 ^ places) (number_of_digits (whole ++ kept)) (10 ^ length rest) (number_of_digits rest) low (10 ^ length kept) (10 ^ length (kept ++ rest))
    (ap number_of_digits (sym (append_assoc whole kept rest)) ∙ number_of_append (whole ++ kept) rest) (ap (λ n. 10 ^ n) (length-append kept rest) ∙ pow-add 10 (length kept) (length rest)) are
  where
    steps : (n z a p r low q d : ℕ) → n ≡ a * p + r → d ≡ q * p → a * z ≡ low * q → n * z ≡ low * d + r * z
    steps n z a p r low q d e f g =
        let one : n * z ≡ (a * z) * p + r * z = ap (λ m. m * z) e ∙ spread a p r z in
        let other : (a * z) * p ≡ low * d = ap (λ m. m * p) g ∙ together low q p ∙ ap (λ m. low * m) (sym f) in
        one ∙ ap (λ m. m + r * z) other
      where
        spread : (a p r z : ℕ) → (a * p + r) * z ≡ (a * z) * p + r * z
        spread a p r z = omega arith

        together : (low q p : ℕ) → (low * q) * p ≡ low * (q * p)
        together low q p = omega arith

pub exact_units : (places low : ℕ) (whole kept rest : List ℕ) → AreUnits places whole kept low → number_of_digits rest ≡ 0 → AreUnits places whole (kept ++ rest) low
exact_units places low whole kept rest are none = more_digits places low whole kept rest are ∙ ap (λ n. low * 10 ^ length (kept ++ rest) + n * 10 ^ places) none ∙ omega arith

-- so many of `d` are nearest to `t`, and the even one of two
record IsNear (t d units : ℕ) : Type 0 where
  not_above : 2 * units * d ≤ 2 * t + d
  not_below : 2 * t ≤ 2 * units * d + d
  even_above : 2 * units * d ≡ 2 * t + d → units % 2 ≡ 0
  even_below : 2 * t ≡ 2 * units * d + d → units % 2 ≡ 0

near_exact : (t d units : ℕ) → 1 ≤ d → t ≡ units * d → IsNear t d units
near_exact t d units some e =
    let twice : 2 * units * d ≡ 2 * t = omega (arith, e) in
    record { not_above = omega (arith, twice); not_below = omega (arith, twice); even_above = λ f. absurd (omega (arith, twice, f, some)); even_below = λ f. absurd (omega (arith, twice, f, some)) }

near_below : (t d s low : ℕ) → t ≡ low * d + s → 2 * s < d → IsNear t d low
near_below t d s low e less =
    let twice : 2 * low * d + 2 * s ≡ 2 * t = omega (arith, e) in
    record { not_above = omega (arith, twice); not_below = omega (arith, twice, less); even_above = λ f. absurd (omega (arith, twice, f, less)); even_below = λ f. absurd (omega (arith, twice, f, less)) }

near_above : (t d s low : ℕ) → t ≡ low * d + s → s < d → d < 2 * s → IsNear t d (low + 1)
near_above t d s low e less more =
    let twice : 2 * (low + 1) * d + 2 * s ≡ 2 * t + 2 * d = omega (arith, e) in
    record { not_above = omega (arith, twice, more); not_below = omega (arith, twice, less); even_above = λ f. absurd (omega (arith, twice, f, more)); even_below = λ f. absurd (omega (arith, twice, f, less)) }

near_half : (t d s low : ℕ) → t ≡ low * d + s → 1 ≤ d → 2 * s ≡ d → IsNear t d (low + low % 2)
near_half t d s low e some half = by_case (low % 2 == 0) refl
  where
    by_case : (b : Bool) → low % 2 == 0 ≡ b → IsNear t d (low + low % 2)
    by_case true is =
        let even = eqb-true (low % 2) 0 is in
        let same : low + low % 2 ≡ low = omega (arith, even) in
        let twice : 2 * low * d + d ≡ 2 * t = omega (arith, e, half) in
        subst (IsNear t d) (sym same) (record { not_above = omega (arith, twice); not_below = omega (arith, twice); even_above = λ f. absurd (omega (arith, twice, f, some)); even_below = λ f. even })
    by_case false is =
        let odd : low % 2 ≡ 1 = grind (arith, nat_tests) in
        let same : low + low % 2 ≡ low + 1 = omega (arith, odd) in
        let twice : 2 * (low + 1) * d ≡ 2 * t + d = omega (arith, e, half) in
        subst (IsNear t d) (sym same) (record { not_above = omega (arith, twice); not_below = omega (arith, twice); even_above = λ f. omega (arith, odd); even_below = λ f. absurd (omega (arith, twice, f, some)) })

nearest : (places units : ℕ) (whole decimals : List ℕ) → IsNear (number_of_digits (whole ++ decimals) * 10 ^ places) (10 ^ length decimals) units → AreNearestUnits places whole decimals units
nearest places units whole decimals near = record { not_above = near.not_above; not_below = near.not_below; even_above = near.even_above; even_below = near.even_below }

-- units that are exact are the nearest
pub exactly_read : (rounds : Bool) (places units : ℕ) (whole decimals : List ℕ) → AreUnits places whole decimals units → AreReadUnits rounds places whole decimals units
exactly_read false places units whole decimals are = are
exactly_read true places units whole decimals are = nearest places units whole decimals (near_exact _ _ units (power_is_positive (length decimals)) are)

-- the places are all there, or nothing is left
abbrev pub AreKept : ℕ → List ℕ → List ℕ → Type 0
AreKept places kept rest = (length kept ≡ places) ⊎ (rest ≡ [])

-- a part `r` of `p`
abbrev IsPart : Rest → ℕ → ℕ → Type 0
IsPart rests.Nothing r p = r ≡ 0
IsPart rests.BelowHalf r p = 2 * r < p
IsPart rests.Half r p = 2 * r ≡ p
IsPart rests.AboveHalf r p = p < 2 * r

part_of : (kind : Rest) (rest : List ℕ) → IsRest kind rest → IsPart kind (number_of_digits rest) (10 ^ length rest)
part_of rests.Nothing rest is = is
part_of rests.BelowHalf rest is = is
part_of rests.Half rest is = is
part_of rests.AboveHalf rest is = is

near_rest : (t d s low units : ℕ) (z p r : ℕ) (kind : Rest) → t ≡ low * d + s → d ≡ z * p → s ≡ r * z → 1 ≤ z → 1 ≤ p → r < p → IsPart kind r p → IsRounded low kind units → IsNear t d units
near_rest t d s low units z p r rests.Nothing e f g some many less is rounded =
    let none : s ≡ 0 = g ∙ ap (λ n. n * z) is ∙ omega arith in
    subst (IsNear t d) (sym rounded) (near_exact t d low (positive d z p f some many) (omega (arith, e, none)))
  where
    positive : (d z p : ℕ) → d ≡ z * p → 1 ≤ z → 1 ≤ p → 1 ≤ d
    positive d z p f some many = let least : 1 * p ≤ z * p = mul-le-mul_right p some in omega (arith, f, least, many)
near_rest t d s low units z p r rests.BelowHalf e f g some many less is rounded =
    let more : 2 * r + 1 ≤ p = omega (arith, is) in
    let times : (2 * r + 1) * z ≤ p * z = mul-le-mul_right z more in
    subst (IsNear t d) (sym rounded) (near_below t d s low e (omega (arith, times, f, g, some)))
near_rest t d s low units z p r rests.Half e f g some many less is rounded =
    let times : 2 * r * z ≡ p * z = ap (λ n. n * z) is in
    let least : 1 * p ≤ z * p = mul-le-mul_right p some in
    subst (IsNear t d) (sym rounded) (near_half t d s low e (omega (arith, f, least, many)) (omega (arith, times, f, g)))
near_rest t d s low units z p r rests.AboveHalf e f g some many less is rounded =
    let more : p + 1 ≤ 2 * r = omega (arith, is) in
    let times : (p + 1) * z ≤ 2 * r * z = mul-le-mul_right z more in
    let fewer : r + 1 ≤ p = omega (arith, less) in
    let below : (r + 1) * z ≤ p * z = mul-le-mul_right z fewer in
    subst (IsNear t d) (sym rounded) (near_above t d s low e (omega (arith, below, f, g, some)) (omega (arith, times, f, g, some)))

pub nearest_units : (places low units : ℕ) (whole kept rest : List ℕ) (kind : Rest) → AreUnits places whole kept low → AreDigits rest → AreKept places kept rest → IsRest kind rest → IsRounded low kind units
    → AreNearestUnits places whole (kept ++ rest) units
nearest_units places low units whole kept rest kind are digits (inl all) is rounded =
    let power : 10 ^ length (kept ++ rest) ≡ 10 ^ places * 10 ^ length rest = ap (λ n. 10 ^ n) (length-append kept rest ∙ ap (λ n. n + length rest) all) ∙ pow-add 10 places (length rest) in
    nearest places units whole (kept ++ rest)
    (near_rest _ _ (number_of_digits rest * 10 ^ places) low units (10 ^ places) (10 ^ length rest) (number_of_digits rest) kind (more_digits places low whole kept rest are) power refl (power_is_positive places) (power_is_positive (length rest))
    (number_of_digits_short rest (length rest) digits (omega arith)) (part_of kind rest is) rounded)
nearest_units places low units whole kept rest kind are digits (inr none) is rounded =
    subst (λ n. AreNearestUnits places whole (kept ++ rest) n) (sym (no_rest kind (subst (IsRest kind) none is) rounded))
    (exactly_read true places low whole (kept ++ rest) (exact_units places low whole kept rest are (ap number_of_digits none)))
  where
    no_rest : (kind : Rest) → IsRest kind [] → IsRounded low kind units → units ≡ low
    no_rest rests.Nothing is rounded = rounded
    no_rest rests.BelowHalf is rounded = rounded
    no_rest rests.Half is rounded = absurd (omega (arith, is))
    no_rest rests.AboveHalf is rounded = absurd (omega (arith, is))

-- ---- what fits

pub power_few : (places count : ℕ) → places ≤ 6 → 10 ^ (places - count) ≤ 1000000
power_few places count few = let fewer : places - count ≤ 6 = omega (arith, few) in pow-le-pow_right ten fewer
  where
    ten : 0 < 10
    ten = omega arith

-- the digits that were kept, in units
pub down : (places number : ℕ) (whole kept : List ℕ) → length kept ≤ places → number ≡ number_of_digits (whole ++ kept) → AreUnits places whole kept (number * 10 ^ (places - length kept))
down places number whole kept within is =
    let count : places - length kept + length kept ≡ places = omega (arith, within) in
    let power : 10 ^ places ≡ 10 ^ (places - length kept) * 10 ^ length kept = sym (ap (λ k. 10 ^ k) count) ∙ pow-add 10 (places - length kept) (length kept) in
    ap (λ n. n * 10 ^ places) (sym is) ∙ ap (λ p. number * p) power ∙ together number (10 ^ (places - length kept)) (10 ^ length kept)
  where
    together : (a b c : ℕ) → a * (b * c) ≡ (a * b) * c
    together a b c = omega arith

pub product_fits : (number power greatest : ℕ) → number ≤ greatest → greatest ≤ 10 ^ 12 → power ≤ 1000000 → Fits w64 (number * power)
product_fits number power greatest few fewer small =
    let one : number * power ≤ 1000000000000 * power = mul-le-mul_right power (omega (arith, few, fewer)) in
    omega (arith, one, small)

-- what is kept of the decimals
pub digits_after : (front behind : List ℕ) → AreDigits (front ++ behind) → AreDigits behind
digits_after [] behind are = are
digits_after (d ∷ ds) behind are = digits_after ds behind are.2

pub digits_before : (front behind : List ℕ) → AreDigits (front ++ behind) → AreDigits front
digits_before [] behind are = tt
digits_before (d ∷ ds) behind are = (are.0, are.1, digits_before ds behind are.2)

pub are_kept : (decimals kept rest : List ℕ) (places : ℕ) → decimals ≡ kept ++ rest → length kept ≡ min (length decimals) places → AreKept places kept rest
are_kept decimals kept [] places cut count = inr refl
are_kept decimals kept (r ∷ rs) places cut count = let whole : length decimals ≡ length kept + length (r ∷ rs) = ap length cut ∙ length-append kept (r ∷ rs) in inl (omega (arith, count, whole))

-- some digit is no zero where not all are
pub not_zeros : (digits : List ℕ) (are : Bool) → (are ≡ true ↔ (number_of_digits digits ≡ 0)) → are ≡ false → 1 ≤ number_of_digits digits
not_zeros digits are both is = by_case (number_of_digits digits == 0) refl
  where
    by_case : (b : Bool) → number_of_digits digits == 0 ≡ b → 1 ≤ number_of_digits digits
    by_case true zero = absurd (false≢true (sym is ∙ both.1 (eqb-true (number_of_digits digits) 0 zero)))
    by_case false more = grind (arith, nat_tests)
