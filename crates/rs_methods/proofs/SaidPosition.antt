-- What the text of a position says: what is printed, and one position at the most.
use Rattle.std.proofs.Common.{◌≡◌, ℕ, ◌≤◌, Bool, true, false, not, ◌&&◌, List, [], ◌∷◌, ◌++◌, length, get_or, drop, codes, nat_eq, nat_le, refl, sym, ap, ◌∙◌, subst, inl, inr, arith, append_assoc}
use Rattle.std.specs.List.{list_all}
use Rattle.std.specs.Char.{is_ascii_alphabetic}
use Rattle.std.proofs.lemmas.List.{append_cancel_right}
use Rattle.std.proofs.lemmas.List.Folds.{list_all-append}
use Rattle.std.proofs.lemmas.Bool.Decides.{nat_tests}
use Rattle.rs_grammar.specs.Words.{is_word_byte}
use Rattle.rs_measure.specs.FixedPoint.{AreDigits, SaysFixedPoint}
use Rattle.rs_measure.specs.Measure.{SaysMeasure, measure_text}
use Rattle.rs_measure.specs.Part.{SaysPart, SaysPercent, part_text}
use Rattle.rs_methods.specs.Position.{PositionExpression, absolute, beyond, before, interpolative, expression_text}
use Rattle.rs_methods.specs.PositionText.{IsWord, SaysReferent, SaysSigned, SaysPercentage, TextSaysPosition, IsPrintable}
use Rattle.rs_methods.proofs.ReferentList.{both, first, second}

-- What is printed says the position.
pub says_printed : ((n : ℕ) → n ≤ 999999999 → SaysMeasure (measure_text n) n) → ((n : ℕ) → n ≤ 1000000000 → SaysPart (part_text n) n) → (position : PositionExpression) → IsPrintable position → TextSaysPosition (expression_text position) position
says_printed measures parts (absolute measure) fits = measures measure fits
says_printed measures parts (beyond name measure) fits = inr (measure_text measure, record { name_is_word = fits.0; cut = refl; measure_said = measures measure fits.1 })
says_printed measures parts (before name measure) fits = (measure_text measure, record { name_is_word = fits.0; cut = refl; measure_said = measures measure fits.1 })
says_printed measures parts (interpolative part) fits = (part_text part, record { cut = refl; part_said = parts part fits })

-- The bytes of numbers: digits and the point.
abbrev pub is_number_byte : ℕ → Bool
is_number_byte byte = nat_le 46 byte && nat_le byte 57

digit_is_number_byte : (byte : ℕ) → 48 ≤ byte → byte ≤ 57 → is_number_byte byte ≡ true
digit_is_number_byte byte low high = grind (arith, nat_tests)

digits_are_number_bytes : (digits : List ℕ) → AreDigits digits → list_all is_number_byte digits ≡ true
digits_are_number_bytes [] are = refl
digits_are_number_bytes (d ∷ ds) are = both _ _ (digit_is_number_byte d are.0 are.1) (digits_are_number_bytes ds are.2)

joined_bytes : (text whole decimals : List ℕ) → text ≡ whole ++ codes "." ++ decimals → AreDigits whole → AreDigits decimals → list_all is_number_byte text ≡ true
joined_bytes text whole decimals cut left right =
    ap (list_all is_number_byte) (cut ∙ append_assoc whole (46 ∷ []) decimals) ∙ (list_all-append is_number_byte whole (46 ∷ decimals) ∙ both _ _ (digits_are_number_bytes whole left) (digits_are_number_bytes decimals right))

number_bytes : (most places : ℕ) (text : List ℕ) (n : ℕ) → SaysFixedPoint most places text n → list_all is_number_byte text ≡ true
number_bytes most places text n (inl said) = digits_are_number_bytes text said.whole.digits_only
number_bytes most places text n (inr (whole, decimals, said)) = joined_bytes text whole decimals said.cut said.whole_part.digits_only said.decimal_part.digits_only

measure_bytes : (text : List ℕ) (n : ℕ) → SaysMeasure text n → list_all is_number_byte text ≡ true
measure_bytes text n said = number_bytes 6 3 text n said

percent_bytes : (text : List ℕ) (n : ℕ) → SaysPercent text n → list_all is_number_byte text ≡ true
percent_bytes text n said = number_bytes 3 7 text n said

-- Only what begins with `@` is relative, and only what ends with `%` is a part.
abbrev pub starts_at : List ℕ → Bool
starts_at [] = false
starts_at (byte ∷ bytes) = nat_eq byte 64

number_byte_is_no_at : (byte : ℕ) → is_number_byte byte ≡ true → nat_eq byte 64 ≡ false
number_byte_is_no_at byte is = grind (arith, nat_tests)

number_starts : (text : List ℕ) → list_all is_number_byte text ≡ true → starts_at text ≡ false
number_starts [] are = refl
number_starts (byte ∷ bytes) are = number_byte_is_no_at byte (first _ _ are)

percentage_starts : (number : List ℕ) → list_all is_number_byte number ≡ true → starts_at (number ++ 37 ∷ []) ≡ false
percentage_starts [] are = refl
percentage_starts (byte ∷ bytes) are = number_byte_is_no_at byte (first _ _ are)

percent_sign_is_no_number : (number : List ℕ) → list_all is_number_byte (number ++ 37 ∷ []) ≡ true → ⊥
percent_sign_is_no_number [] are = cc
percent_sign_is_no_number (byte ∷ bytes) are = percent_sign_is_no_number bytes (second _ _ are)

-- A name ends at the first byte that is none of its own.
abbrev pub ends_name : List ℕ → Bool
ends_name [] = true
ends_name (byte ∷ bytes) = not (is_word_byte byte)

not_both : (b : Bool) → b ≡ true → not b ≡ true → ⊥
not_both true is denied = cc
not_both false is denied = cc

names_same : (a b x y : List ℕ) → list_all is_word_byte a ≡ true → list_all is_word_byte b ≡ true → ends_name x ≡ true → ends_name y ≡ true → a ++ x ≡ b ++ y → (a ≡ b) × (x ≡ y)
names_same [] [] x y left right p q same = (refl, same)
names_same [] (b ∷ rest_b) x y left right p q same = absurd (not_both (is_word_byte b) (first _ _ right) (subst (λ l. ends_name l ≡ true) same p))
names_same (a ∷ rest_a) [] x y left right p q same = absurd (not_both (is_word_byte a) (first _ _ left) (subst (λ l. ends_name l ≡ true) (sym same) q))
names_same (a ∷ rest_a) (b ∷ rest_b) x y left right p q same =
    let heads : a ≡ b = ap (λ l. get_or l 0 0) same in
    let rest : (rest_a ≡ rest_b) × (x ≡ y) = names_same rest_a rest_b x y (second _ _ left) (second _ _ right) p q (ap (drop 1) same) in
    ((λ i. heads i ∷ rest.0 i), rest.1)

letter_is_word_byte : (byte : ℕ) → is_ascii_alphabetic byte ≡ true → is_word_byte byte ≡ true
letter_is_word_byte byte is = grind (arith, nat_tests)

word_bytes : (name : List ℕ) → IsWord name → list_all is_word_byte name ≡ true
word_bytes [] word = absurd word
word_bytes (byte ∷ bytes) word = both _ _ (letter_is_word_byte byte word.0) word.1

-- `@`, a name and what stands after it
pub record IsRelative (text name rest : List ℕ) : Type 0 where
  pub word : IsWord name
  pub cut : text ≡ 64 ∷ (name ++ rest)

relative_starts : (text name rest : List ℕ) → IsRelative text name rest → starts_at text ≡ true
relative_starts text name rest is = ap starts_at is.cut

one_cut : (text a b x y : List ℕ) → IsRelative text a x → IsRelative text b y → ends_name x ≡ true → ends_name y ≡ true → (a ≡ b) × (x ≡ y)
one_cut text a b x y left right p q = names_same a b x y (word_bytes a left.word) (word_bytes b right.word) p q (ap (drop 1) (sym left.cut ∙ right.cut))

alone : (text name : List ℕ) (measure : ℕ) → SaysReferent text name measure → IsRelative text name []
alone text name measure said = record { word = said.name_is_word; cut = said.cut ∙ ap (λ l. 64 ∷ l) (sym (append_nothing name)) }
  where
    append_nothing : (l : List ℕ) → l ++ [] ≡ l
    append_nothing [] = refl
    append_nothing (x ∷ xs) = ap (λ l. x ∷ l) (append_nothing xs)

signed : (sign : ℕ) (text name : List ℕ) (measure : ℕ) (number : List ℕ) → SaysSigned (sign ∷ []) text name measure number → IsRelative text name (sign ∷ number)
signed sign text name measure number said = record { word = said.name_is_word; cut = said.cut ∙ ap (λ l. 64 ∷ l) (append_assoc name (sign ∷ []) number) }

-- One name and one measure.
signed_one : ((text : List ℕ) (a b : ℕ) → SaysMeasure text a → SaysMeasure text b → a ≡ b) → (sign : ℕ) → not (is_word_byte sign) ≡ true → (text a b : List ℕ) (m n : ℕ) (x y : List ℕ)
    → SaysSigned (sign ∷ []) text a m x → SaysSigned (sign ∷ []) text b n y → (a ≡ b) × (m ≡ n)
signed_one measures sign ends text a b m n x y said again =
    let same : (a ≡ b) × (sign ∷ x ≡ sign ∷ y) = one_cut text a b (sign ∷ x) (sign ∷ y) (signed sign text a m x said) (signed sign text b n y again) ends ends in
    (same.0, measures y m n (subst (λ l. SaysMeasure l m) (ap (drop 1) same.1) said.measure_said) again.measure_said)

alone_not_signed : (sign : ℕ) → not (is_word_byte sign) ≡ true → (text a b : List ℕ) (m n : ℕ) (y : List ℕ) → SaysReferent text a m → SaysSigned (sign ∷ []) text b n y → ⊥
alone_not_signed sign ends text a b m n y said again =
    let same : (a ≡ b) × ([] ≡ sign ∷ y) = one_cut text a b [] (sign ∷ y) (alone text a m said) (signed sign text b n y again) refl ends in
    omega (arith, ap length same.1)

plus_not_minus : (text a b : List ℕ) (m n : ℕ) (x y : List ℕ) → SaysSigned (codes "+") text a m x → SaysSigned (codes "-") text b n y → ⊥
plus_not_minus text a b m n x y said again =
    let same : (a ≡ b) × (43 ∷ x ≡ 45 ∷ y) = one_cut text a b (43 ∷ x) (45 ∷ y) (signed 43 text a m x said) (signed 45 text b n y again) refl refl in
    omega (arith, ap (λ l. get_or l 0 0) same.1)

-- A measure, a relative position and a part are told apart.
abbrev pub IsRelativeText : List ℕ → Type 0
IsRelativeText text = starts_at text ≡ true

beyond_is_relative : (text name : List ℕ) (measure : ℕ) → TextSaysPosition text (beyond name measure) → IsRelativeText text
beyond_is_relative text name measure (inl said) = relative_starts text name [] (alone text name measure said)
beyond_is_relative text name measure (inr (number, said)) = relative_starts text name (43 ∷ number) (signed 43 text name measure number said)

before_is_relative : (text name : List ℕ) (measure : ℕ) → TextSaysPosition text (before name measure) → IsRelativeText text
before_is_relative text name measure (number, said) = relative_starts text name (45 ∷ number) (signed 45 text name measure number said)

absolute_not_relative : (text : List ℕ) (n : ℕ) → SaysMeasure text n → IsRelativeText text → ⊥
absolute_not_relative text n said relative = let other : starts_at text ≡ false = number_starts text (measure_bytes text n said) in cc

part_not_relative : (text : List ℕ) (part : ℕ) (number : List ℕ) → SaysPercentage text part number → IsRelativeText text → ⊥
part_not_relative text part number said relative =
    let other : starts_at text ≡ false = ap starts_at said.cut ∙ percentage_starts number (percent_bytes number part said.part_said.percent) in cc

absolute_not_part : (text : List ℕ) (n part : ℕ) (number : List ℕ) → SaysMeasure text n → SaysPercentage text part number → ⊥
absolute_not_part text n part number said again = percent_sign_is_no_number number (sym (ap (list_all is_number_byte) again.cut) ∙ measure_bytes text n said)

part_one : ((text : List ℕ) (a b : ℕ) → SaysPart text a → SaysPart text b → a ≡ b) → (text : List ℕ) (a b : ℕ) (x y : List ℕ) → SaysPercentage text a x → SaysPercentage text b y → a ≡ b
part_one parts text a b x y said again =
    let same : x ≡ y = append_cancel_right x y (37 ∷ []) (sym said.cut ∙ again.cut) in
    parts y a b (subst (λ l. SaysPart l a) same said.part_said) again.part_said

beyond_same : (a b : List ℕ) (m n : ℕ) → a ≡ b → m ≡ n → beyond a m ≡ beyond b n
beyond_same a b m n names measures = λ i. beyond (names i) (measures i)

beyond_one : ((text : List ℕ) (a b : ℕ) → SaysMeasure text a → SaysMeasure text b → a ≡ b) → (text a b : List ℕ) (m n : ℕ) → TextSaysPosition text (beyond a m) → TextSaysPosition text (beyond b n) → beyond a m ≡ beyond b n
beyond_one measures text a b m n (inl said) (inl again) =
    beyond_same a b m n (one_cut text a b [] [] (alone text a m said) (alone text b n again) refl refl).0 (said.nothing_beyond ∙ sym again.nothing_beyond)
beyond_one measures text a b m n (inl said) (inr (y, again)) = absurd (alone_not_signed 43 refl text a b m n y said again)
beyond_one measures text a b m n (inr (x, said)) (inl again) = absurd (alone_not_signed 43 refl text b a n m x again said)
beyond_one measures text a b m n (inr (x, said)) (inr (y, again)) =
    let same : (a ≡ b) × (m ≡ n) = signed_one measures 43 refl text a b m n x y said again in beyond_same a b m n same.0 same.1

beyond_not_before : (text a b : List ℕ) (m n : ℕ) → TextSaysPosition text (beyond a m) → TextSaysPosition text (before b n) → ⊥
beyond_not_before text a b m n (inl said) (y, again) = alone_not_signed 45 refl text a b m n y said again
beyond_not_before text a b m n (inr (x, said)) (y, again) = plus_not_minus text a b m n x y said again

before_one : ((text : List ℕ) (a b : ℕ) → SaysMeasure text a → SaysMeasure text b → a ≡ b) → (text a b : List ℕ) (m n : ℕ) → TextSaysPosition text (before a m) → TextSaysPosition text (before b n) → before a m ≡ before b n
before_one measures text a b m n (x, said) (y, again) =
    let same : (a ≡ b) × (m ≡ n) = signed_one measures 45 refl text a b m n x y said again in λ i. before (same.0 i) (same.1 i)

-- A text says one position at the most.
pub says_one_position : ((text : List ℕ) (a b : ℕ) → SaysMeasure text a → SaysMeasure text b → a ≡ b) → ((text : List ℕ) (a b : ℕ) → SaysPart text a → SaysPart text b → a ≡ b)
    → (text : List ℕ) (a b : PositionExpression) → TextSaysPosition text a → TextSaysPosition text b → a ≡ b
says_one_position measures parts text (absolute m) (absolute n) said again = ap absolute (measures text m n said again)
says_one_position measures parts text (absolute m) (beyond b n) said again = absurd (absolute_not_relative text m said (beyond_is_relative text b n again))
says_one_position measures parts text (absolute m) (before b n) said again = absurd (absolute_not_relative text m said (before_is_relative text b n again))
says_one_position measures parts text (absolute m) (interpolative n) said (y, again) = absurd (absolute_not_part text m n y said again)
says_one_position measures parts text (beyond a m) (absolute n) said again = absurd (absolute_not_relative text n again (beyond_is_relative text a m said))
says_one_position measures parts text (beyond a m) (beyond b n) said again = beyond_one measures text a b m n said again
says_one_position measures parts text (beyond a m) (before b n) said again = absurd (beyond_not_before text a b m n said again)
says_one_position measures parts text (beyond a m) (interpolative n) said (y, again) = absurd (part_not_relative text n y again (beyond_is_relative text a m said))
says_one_position measures parts text (before a m) (absolute n) said again = absurd (absolute_not_relative text n again (before_is_relative text a m said))
says_one_position measures parts text (before a m) (beyond b n) said again = absurd (beyond_not_before text b a n m again said)
says_one_position measures parts text (before a m) (before b n) said again = before_one measures text a b m n said again
says_one_position measures parts text (before a m) (interpolative n) said (y, again) = absurd (part_not_relative text n y again (before_is_relative text a m said))
says_one_position measures parts text (interpolative m) (absolute n) (x, said) again = absurd (absolute_not_part text n m x again said)
says_one_position measures parts text (interpolative m) (beyond b n) (x, said) again = absurd (part_not_relative text m x said (beyond_is_relative text b n again))
says_one_position measures parts text (interpolative m) (before b n) (x, said) again = absurd (part_not_relative text m x said (before_is_relative text b n again))
says_one_position measures parts text (interpolative m) (interpolative n) (x, said) (y, again) = ap interpolative (part_one parts text m n x y said again)
