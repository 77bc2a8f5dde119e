-- The first character of UTF-16.
use Rattle.std.proofs.Common.{◌≡◌, ℕ, ◌<◌, ◌≤◌, Bool, true, false, ◌&&◌, List, [], ◌∷◌, ◌++◌, length, get_or, drop, Option, Some, None, refl, ap, ◌∙◌, arith, append_assoc}
use Rattle.std.proofs.lemmas.List.Concat.{flat_map-cons}
use Rattle.std.specs.List.{flat_map}
use Rattle.std.specs.Char.Utf16.{is_high_surrogate, is_low_surrogate, lone_unit_char, surrogate_pair_char, utf16_chars}
use Rattle.rs_encodings.specs.declared.character.First.{First}
use Rattle.rs_encodings.specs.declared.encoding.ByteOrder.{ByteOrder}
use Rattle.rs_encodings.specs.declared.encoding.Code.TheVariants.{Utf16}
use Rattle.rs_encodings.specs.Forms.{Begins}
use Rattle.rs_encodings.specs.Texts.{text_after_units, unit_of, units_of, utf16_text, utf8_of}

and_false : (b : Bool) → (b && false) ≡ false
and_false true = refl
and_false false = refl

-- the unit at the front of bytes, or 0 where they are no unit
abbrev pub next_unit : ByteOrder → List ℕ → ℕ
next_unit order bytes = get_or (units_of order bytes) 0 0

-- a unit that is no first of two with the next one is a character alone
pub chars_alone : (u : ℕ) (us : List ℕ) → (is_high_surrogate u && is_low_surrogate (get_or us 0 0)) ≡ false → utf16_chars (u ∷ us) ≡ lone_unit_char u ∷ utf16_chars us
unfolding utf16_chars
chars_alone u [] apart = refl
chars_alone u (v ∷ us) apart = rw apart refl

pub chars_paired : (u v : ℕ) (us : List ℕ) → is_high_surrogate u ≡ true → is_low_surrogate v ≡ true → utf16_chars (u ∷ v ∷ us) ≡ Some (surrogate_pair_char u v) ∷ utf16_chars us
unfolding utf16_chars
chars_paired u v us high low = rw (high, low) refl

-- the text that begins with a character
text_cons : (o : Option ℕ) (os : List (Option ℕ)) (rest : List ℕ) → flat_map utf8_of (o ∷ os) ++ rest ≡ utf8_of o ++ (flat_map utf8_of os ++ rest)
text_cons o os rest = ap (λ t. t ++ rest) (flat_map-cons utf8_of o os) ∙ append_assoc (utf8_of o) (flat_map utf8_of os) rest

pub text_alone : (order : ByteOrder) (a b : ℕ) (rest : List ℕ) → (is_high_surrogate (unit_of order a b) && is_low_surrogate (next_unit order rest)) ≡ false
    → utf16_text order (a ∷ b ∷ rest) ≡ utf8_of (lone_unit_char (unit_of order a b)) ++ utf16_text order rest
text_alone order a b rest apart =
    ap (λ os. flat_map utf8_of os ++ text_after_units rest) (chars_alone (unit_of order a b) (units_of order rest) apart)
    ∙ text_cons (lone_unit_char (unit_of order a b)) (utf16_chars (units_of order rest)) (text_after_units rest)

pub text_paired : (order : ByteOrder) (a b c d : ℕ) (rest : List ℕ) → is_high_surrogate (unit_of order a b) ≡ true → is_low_surrogate (unit_of order c d) ≡ true
    → utf16_text order (a ∷ b ∷ c ∷ d ∷ rest) ≡ utf8_of (Some (surrogate_pair_char (unit_of order a b) (unit_of order c d))) ++ utf16_text order rest
text_paired order a b c d rest high low =
    ap (λ os. flat_map utf8_of os ++ text_after_units rest) (chars_paired (unit_of order a b) (unit_of order c d) (units_of order rest) high low)
    ∙ text_cons (Some (surrogate_pair_char (unit_of order a b) (unit_of order c d))) (utf16_chars (units_of order rest)) (text_after_units rest)

-- the unit of the first two bytes
abbrev pub first_unit : ByteOrder → List ℕ → ℕ
first_unit order bytes = unit_of order (get_or bytes 0 0) (get_or bytes 1 0)

-- a unit alone comes first, where it is no first of two with the next one
begins_alone : (order : ByteOrder) (is_last : Bool) (bytes : List ℕ) (first : First) → 2 ≤ length bytes → first.count ≡ 2 → first.character ≡ lone_unit_char (first_unit order bytes)
    → ((rest : List ℕ) → (is_last ≡ true → rest ≡ []) → (is_high_surrogate (first_unit order bytes) && is_low_surrogate (next_unit order (drop 2 bytes ++ rest))) ≡ false)
    → Begins (Utf16 order) is_last bytes first
begins_alone order is_last [] first long count character apart = absurd (omega arith)
begins_alone order is_last (a ∷ []) first long count character apart = absurd (omega arith)
begins_alone order is_last (a ∷ b ∷ bytes) first long count character apart = record {
  some = omega arith;
  within = omega arith;
  text = λ rest last. rw (count, character) (text_alone order a b (bytes ++ rest) (apart rest last));
}

-- where it is no first of two
pub begins_low : (order : ByteOrder) (is_last : Bool) (bytes : List ℕ) (first : First) → 2 ≤ length bytes → first.count ≡ 2 → first.character ≡ lone_unit_char (first_unit order bytes)
    → is_high_surrogate (first_unit order bytes) ≡ false → Begins (Utf16 order) is_last bytes first
begins_low order is_last bytes first long count character no_high =
    begins_alone order is_last bytes first long count character (λ rest last. ap (λ b. b && is_low_surrogate (next_unit order (drop 2 bytes ++ rest))) no_high)

-- where it is the last
pub begins_last : (order : ByteOrder) (is_last : Bool) (bytes : List ℕ) (first : First) → 2 ≤ length bytes → length bytes < 4 → first.count ≡ 2 → first.character ≡ lone_unit_char (first_unit order bytes)
    → is_last ≡ true → Begins (Utf16 order) is_last bytes first
begins_last order is_last [] first long short count character last = absurd (omega arith)
begins_last order is_last (a ∷ []) first long short count character last = absurd (omega arith)
begins_last order is_last (a ∷ b ∷ []) first long short count character last =
    begins_alone order is_last (a ∷ b ∷ []) first long count character (λ rest none. rw (none last) (and_false (is_high_surrogate (unit_of order a b))))
begins_last order is_last (a ∷ b ∷ c ∷ []) first long short count character last =
    begins_alone order is_last (a ∷ b ∷ c ∷ []) first long count character (λ rest none. rw (none last) (and_false (is_high_surrogate (unit_of order a b))))
begins_last order is_last (a ∷ b ∷ c ∷ d ∷ bytes) first long short count character last = absurd (omega arith)

-- the unit of the two bytes after those
abbrev pub second_unit : ByteOrder → List ℕ → ℕ
second_unit order bytes = unit_of order (get_or bytes 2 0) (get_or bytes 3 0)

-- where the next one is no second of two
pub begins_apart : (order : ByteOrder) (is_last : Bool) (bytes : List ℕ) (first : First) → 4 ≤ length bytes → first.count ≡ 2 → first.character ≡ lone_unit_char (first_unit order bytes)
    → is_low_surrogate (second_unit order bytes) ≡ false → Begins (Utf16 order) is_last bytes first
begins_apart order is_last [] first long count character no_low = absurd (omega arith)
begins_apart order is_last (a ∷ []) first long count character no_low = absurd (omega arith)
begins_apart order is_last (a ∷ b ∷ []) first long count character no_low = absurd (omega arith)
begins_apart order is_last (a ∷ b ∷ c ∷ []) first long count character no_low = absurd (omega arith)
begins_apart order is_last (a ∷ b ∷ c ∷ d ∷ bytes) first long count character no_low =
    begins_alone order is_last (a ∷ b ∷ c ∷ d ∷ bytes) first (omega arith) count character
    (λ rest last. ap (λ t. is_high_surrogate (unit_of order a b) && t) no_low ∙ and_false (is_high_surrogate (unit_of order a b)))

-- the character of two units, by what they are
pub paired_as : (o : Option ℕ) (u v high low : ℕ) → o ≡ Some (surrogate_pair_char u v) → u ≡ high → v ≡ low → o ≡ Some (surrogate_pair_char high low)
paired_as o u v high low is first second = is ∙ ap (λ n. Some (surrogate_pair_char n v)) first ∙ ap (λ n. Some (surrogate_pair_char high n)) second

-- two units come first
pub begins_paired : (order : ByteOrder) (is_last : Bool) (bytes : List ℕ) (first : First) → 4 ≤ length bytes → first.count ≡ 4
    → first.character ≡ Some (surrogate_pair_char (first_unit order bytes) (second_unit order bytes))
    → is_high_surrogate (first_unit order bytes) ≡ true → is_low_surrogate (second_unit order bytes) ≡ true → Begins (Utf16 order) is_last bytes first
begins_paired order is_last [] first long count character high low = absurd (omega arith)
begins_paired order is_last (a ∷ []) first long count character high low = absurd (omega arith)
begins_paired order is_last (a ∷ b ∷ []) first long count character high low = absurd (omega arith)
begins_paired order is_last (a ∷ b ∷ c ∷ []) first long count character high low = absurd (omega arith)
begins_paired order is_last (a ∷ b ∷ c ∷ d ∷ bytes) first long count character high low = record {
  some = omega arith;
  within = omega arith;
  text = λ rest last. rw (count, character) (text_paired order a b c d (bytes ++ rest) high low);
}

-- a byte after the last unit comes first, and is no character
pub begins_odd : (order : ByteOrder) (is_last : Bool) (bytes : List ℕ) → 0 < length bytes → length bytes < 2 → is_last ≡ true → Begins (Utf16 order) is_last bytes (record { character = None; count = 1 })
unfolding utf16_chars
begins_odd order is_last [] some short last = absurd (omega arith)
begins_odd order is_last (a ∷ []) some short last = record {
  some = omega arith;
  within = omega arith;
  text = λ rest none. rw (none last) refl;
}
begins_odd order is_last (a ∷ b ∷ bytes) some short last = absurd (omega arith)
