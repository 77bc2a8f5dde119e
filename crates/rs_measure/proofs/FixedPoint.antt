-- Laws of texts of numbers with a fixed point: what one says, that it says one number, and how large that is.
use Rattle.std.proofs.Common.{◌≡◌, ℕ, ◌+◌, ◌-◌, ◌*◌, ◌^◌, ◌<◌, ◌≤◌, List, [], ◌∷◌, ◌++◌, Bool, true, false, eqb, length, get_or, codes, Option, Some, None, IfSome, IfNone, refl, sym, ap, ◌∙◌, subst, inl, inr, arith, rules, append_assoc, length-append, take, drop}
use Rattle.std.specs.Char.{is_ascii_digit}
use Rattle.std.specs.List.{position_or_len, before_first, after_first}
use Rattle.std.proofs.Math.Nat.{one-le-pow, mul-le-mul_left}
use Rattle.std.proofs.lemmas.List.{take_at, drop_at, take_more}
use Rattle.std.proofs.lemmas.Nat.{pow-add}
use Rattle.std.proofs.lemmas.Str.Parse.{IsNumeralModel, numerals_by_fold, digits_value_short, digit_at}
use Rattle.std.proofs.lemmas.Bool.Decides.{nat_tests}
use Rattle.rs_measure.specs.FixedPoint.{number_from, number_of_digits, AreDigits, AreDigitsUpTo, SaysWhole, SaysParts, SaysFixedPoint}

-- `AreDigits` and `number_of_digits` are std's numerals.
pub numerals : IsNumeralModel AreDigits (number_from 0)
numerals = numerals_by_fold AreDigits (search rules) number_from (search rules)

-- Digits say a number below the power of ten of their count.
pub number_of_digits_short : (digits : List ℕ) (count : ℕ) → AreDigits digits → length digits ≤ count → number_of_digits digits < 10 ^ count
number_of_digits_short digits count digits_only short = digits_value_short numerals digits count digits_only short

pub digit_in_range : (digits : List ℕ) (i : ℕ) → AreDigits digits → i < length digits → (48 ≤ get_or digits i 0) × (get_or digits i 0 ≤ 57)
digit_in_range digits i digits_only within = digit_at digits i (numerals.to digits digits_only) within

-- One more digit, at the end.
pub digits_push : (digits : List ℕ) (digit : ℕ) → AreDigits digits → 48 ≤ digit → digit ≤ 57 → AreDigits (digits ++ digit ∷ [])
digits_push [] digit h low high = (low, high, tt)
digits_push (d ∷ ds) digit h low high = (h.0, h.1, digits_push ds digit h.2 low high)

pub number_from_push : (n : ℕ) (digits : List ℕ) (digit : ℕ) → number_from n (digits ++ digit ∷ []) ≡ 10 * number_from n digits + (digit - 48)
number_from_push n [] digit = refl
number_from_push n (d ∷ ds) digit = number_from_push (10 * n + (d - 48)) ds digit

-- the byte of the point
abbrev pub is_point : ℕ → Bool
is_point byte = eqb byte 46

pub no_point_in_digits : (digits : List ℕ) → AreDigits digits → position_or_len is_point digits ≡ length digits
no_point_in_digits [] h = refl
no_point_in_digits (d ∷ ds) h = let rest : position_or_len is_point ds ≡ length ds = no_point_in_digits ds h.2 in grind (arith, nat_tests, rest)

pub point_after_digits : (whole decimals : List ℕ) → AreDigits whole → position_or_len is_point (whole ++ 46 ∷ decimals) ≡ length whole
point_after_digits [] decimals h = refl
point_after_digits (d ∷ ds) decimals h = let rest : position_or_len is_point (ds ++ 46 ∷ decimals) ≡ length ds = point_after_digits ds decimals h.2 in grind (arith, nat_tests, rest)

-- A text with a point is its whole part, the point and its decimals, cut at the first point.
pub record IsParted (text whole decimals : List ℕ) : Type 0 where
  pub point : position_or_len is_point text < length text
  pub whole_part : before_first is_point text ≡ whole
  pub decimal_part : after_first is_point text ≡ decimals

pub cut_of_parts : (text whole decimals : List ℕ) → AreDigits whole → text ≡ whole ++ codes "." ++ decimals → IsParted text whole decimals
cut_of_parts text whole decimals digits_only cut =
    let joined : text ≡ whole ++ 46 ∷ decimals = cut ∙ append_assoc whole (46 ∷ []) decimals in
    let place : position_or_len is_point text ≡ length whole = ap (position_or_len is_point) joined ∙ point_after_digits whole decimals digits_only in
    let last : length (whole ++ 46 ∷ []) ≡ position_or_len is_point text + 1 = omega (arith, length-append whole (46 ∷ []), place) in
    record {
      point = omega (arith, place, ap length joined, length-append whole (46 ∷ decimals));
      whole_part = ap (λ n. take n text) place ∙ (ap (take (length whole)) joined ∙ take_at whole (46 ∷ decimals) (length whole) refl);
      decimal_part = ap (drop (position_or_len is_point text + 1)) cut ∙ drop_at (whole ++ 46 ∷ []) decimals (position_or_len is_point text + 1) last;
    }

-- What a text says shows at its first point.
pub whole_has_no_point : (most places : ℕ) → (text : List ℕ) (n : ℕ) → SaysWhole most places text n → position_or_len is_point text ≡ length text
whole_has_no_point most places text n said = no_point_in_digits text said.whole.digits_only

pub parts_are_cut : (most places : ℕ) → (text : List ℕ) (n : ℕ) (whole decimals : List ℕ) → SaysParts most places text n whole decimals → IsParted text whole decimals
parts_are_cut most places text n whole decimals said = cut_of_parts text whole decimals said.whole_part.digits_only said.cut

-- A text without a point that is no whole digits says nothing.
pub unsaid_without_point : (most places : ℕ) → (text : List ℕ) → position_or_len is_point text ≡ length text → (AreDigitsUpTo most text → ⊥) → (n : ℕ) → SaysFixedPoint most places text n → ⊥
unsaid_without_point most places text no_point no_digits n (inl said) = no_digits said.whole
unsaid_without_point most places text no_point no_digits n (inr (whole, decimals, said)) = let cut : IsParted text whole decimals = parts_are_cut most places text n whole decimals said in omega (arith, cut.point)

pub unsaid_whole : (most places : ℕ) → (text whole : List ℕ) → whole ≡ before_first is_point text → position_or_len is_point text < length text → (AreDigitsUpTo most whole → ⊥) → (n : ℕ) → SaysFixedPoint most places text n → ⊥
unsaid_whole most places text whole before point no_digits n (inl said) = omega (arith, whole_has_no_point most places text n said)
unsaid_whole most places text whole before point no_digits n (inr (digits, decimals, said)) =
    let cut : IsParted text digits decimals = parts_are_cut most places text n digits decimals said in
    no_digits (subst (AreDigitsUpTo most) (sym (before ∙ cut.whole_part)) said.whole_part)

pub unsaid_decimals : (most places : ℕ) → (text decimals : List ℕ) → decimals ≡ after_first is_point text → position_or_len is_point text < length text → (AreDigitsUpTo places decimals → ⊥) → (n : ℕ) → SaysFixedPoint most places text n → ⊥
unsaid_decimals most places text decimals after point no_digits n (inl said) = omega (arith, whole_has_no_point most places text n said)
unsaid_decimals most places text decimals after point no_digits n (inr (whole, digits, said)) =
    let cut : IsParted text whole digits = parts_are_cut most places text n whole digits said in
    no_digits (subst (AreDigitsUpTo places) (sym (after ∙ cut.decimal_part)) said.decimal_part)

-- A text says one number at the most.
pub says_one_number : (most places : ℕ) → (text : List ℕ) (a b : ℕ) → SaysFixedPoint most places text a → SaysFixedPoint most places text b → a ≡ b
says_one_number most places text a b (inl said) (inl again) = said.value ∙ sym again.value
says_one_number most places text a b (inl said) (inr (whole, decimals, again)) =
    let cut : IsParted text whole decimals = parts_are_cut most places text b whole decimals again in absurd (omega (arith, cut.point, whole_has_no_point most places text a said))
says_one_number most places text a b (inr (whole, decimals, said)) (inl again) =
    let cut : IsParted text whole decimals = parts_are_cut most places text a whole decimals said in absurd (omega (arith, cut.point, whole_has_no_point most places text b again))
says_one_number most places text a b (inr (whole, decimals, said)) (inr (digits, more, again)) =
    let cut : IsParted text whole decimals = parts_are_cut most places text a whole decimals said in
    let other : IsParted text digits more = parts_are_cut most places text b digits more again in
    let same_whole : whole ≡ digits = sym cut.whole_part ∙ other.whole_part in
    let same_decimals : decimals ≡ more = sym cut.decimal_part ∙ other.decimal_part in
    said.value ∙ (ap (λ w. 10 ^ places * number_of_digits w + 10 ^ (places - length decimals) * number_of_digits decimals) same_whole
    ∙ (ap (λ d. 10 ^ places * number_of_digits digits + 10 ^ (places - length d) * number_of_digits d) same_decimals ∙ sym again.value))

-- A fact that holds anyway holds where there is no value.
pub if_none : (r : Option ℕ) (P : Type 0) → P → IfNone r P
if_none None P holds = holds
if_none (Some n) P holds = tt

-- One more digit of a list of digits.
pub are_digits_more : (digits : List ℕ) (i : ℕ) → i < length digits → AreDigits (take i digits) → 48 ≤ get_or digits i 0 → get_or digits i 0 ≤ 57 → AreDigits (take (i + 1) digits)
are_digits_more digits i within front low high = subst AreDigits (sym (take_more digits i 0 within)) (digits_push (take i digits) (get_or digits i 0) front low high)

pub number_of_digits_more : (digits : List ℕ) (i : ℕ) → i < length digits → number_of_digits (take (i + 1) digits) ≡ 10 * number_of_digits (take i digits) + (get_or digits i 0 - 48)
number_of_digits_more digits i within = ap number_of_digits (take_more digits i 0 within) ∙ number_from_push 0 (take i digits) (get_or digits i 0)

pub refused_without_point : (most places : ℕ) → (text bytes : List ℕ) (r : Option ℕ) → bytes ≡ text → position_or_len is_point text ≡ length text → IfNone r (AreDigitsUpTo most bytes → ⊥) → IfNone r ((n : ℕ) → SaysFixedPoint most places text n → ⊥)
refused_without_point most places text bytes None same no_point no_digits = unsaid_without_point most places text no_point (λ digits. no_digits (subst (AreDigitsUpTo most) (sym same) digits))
refused_without_point most places text bytes (Some n) same no_point no_digits = tt

-- The test of a digit's byte.
pub digit_range_from_test : (byte : ℕ) → is_ascii_digit byte ≡ true → (48 ≤ byte) × (byte ≤ 57)
digit_range_from_test byte test = (grind (arith, nat_tests), grind (arith, nat_tests))

pub no_digit_from_test : (byte : ℕ) → is_ascii_digit byte ≡ false → 48 ≤ byte → byte ≤ 57 → ⊥
no_digit_from_test byte test low high = grind (arith, nat_tests)

-- ---- how large the number is

pub power_is_positive : (k : ℕ) → 1 ≤ 10 ^ k
power_is_positive k = one-le-pow k 10 (omega arith)

-- A number of at most so many digits, in units of so many places, leaves room for one unit more below the power.
pub whole_in_range : (most places number : ℕ) (digits : List ℕ) → AreDigitsUpTo most digits → number ≡ number_of_digits digits → 10 ^ places * number + 10 ^ places ≤ 10 ^ (most + places)
whole_in_range most places number digits are value =
    let short : number_of_digits digits < 10 ^ most = number_of_digits_short digits most are.digits_only are.at_most in
    let below : 10 ^ places * (number + 1) ≤ 10 ^ places * 10 ^ most = mul-le-mul_left (10 ^ places) (omega (arith, short, value)) in
    let power : 10 ^ (most + places) ≡ 10 ^ most * 10 ^ places = pow-add 10 most places in
    omega (arith, below, power)

pub decimals_in_range : (places number : ℕ) (digits : List ℕ) → AreDigitsUpTo places digits → number ≡ number_of_digits digits → 10 ^ (places - length digits) * number < 10 ^ places
decimals_in_range places number digits are value =
    let short : number_of_digits digits < 10 ^ length digits = number_of_digits_short digits (length digits) are.digits_only (omega arith) in
    let below : 10 ^ (places - length digits) * (number + 1) ≤ 10 ^ (places - length digits) * 10 ^ length digits = mul-le-mul_left (10 ^ (places - length digits)) (omega (arith, short, value)) in
    let power : 10 ^ (places - length digits + length digits) ≡ 10 ^ (places - length digits) * 10 ^ length digits = pow-add 10 (places - length digits) (length digits) in
    let count : places - length digits + length digits ≡ places = omega (arith, are.at_most) in
    let positive : 1 ≤ 10 ^ (places - length digits) = power_is_positive (places - length digits) in
    omega (arith, below, positive, sym power ∙ ap (λ k. 10 ^ k) count)

-- What a text says is below the power of ten of all its digits and places.
pub said_in_range : (most places : ℕ) (text : List ℕ) (number : ℕ) → SaysFixedPoint most places text number → number < 10 ^ (most + places)
said_in_range most places text number (inl said) =
    let whole : 10 ^ places * number_of_digits text + 10 ^ places ≤ 10 ^ (most + places) = whole_in_range most places (number_of_digits text) text said.whole refl in
    omega (arith, whole, said.value, power_is_positive places)
said_in_range most places text number (inr (left, right, said)) =
    let whole : 10 ^ places * number_of_digits left + 10 ^ places ≤ 10 ^ (most + places) = whole_in_range most places (number_of_digits left) left said.whole_part refl in
    let part : 10 ^ (places - length right) * number_of_digits right < 10 ^ places = decimals_in_range places (number_of_digits right) right said.decimal_part refl in
    omega (arith, whole, part, said.value)

-- what leaves room for one unit more lies below
pub some_in_range : (places bound : ℕ) (r : Option ℕ) → IfSome r (λ n. n + 10 ^ places ≤ bound) → IfSome r (λ n. n < bound)
some_in_range places bound None h = tt
some_in_range places bound (Some n) h = omega (arith, h, power_is_positive places)
