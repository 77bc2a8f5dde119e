-- The text of characters that were encoded.
use Rattle.std.proofs.Common.{◌≡◌, ℕ, ◌+◌, ◌-◌, ◌*◌, ◌/◌, ◌%◌, ◌<◌, ◌≤◌, Bool, true, false, cond, ◌&&◌, List, [], ◌∷◌, ◌++◌, map, get_or, Some, inl, inr, refl, ap, ◌∙◌, arith}
use Rattle.std.proofs.lemmas.List.{append-nil}
use Rattle.std.proofs.lemmas.Bool.Decides.{nat_tests}
use Rattle.std.specs.List.{flat_map}
use Rattle.std.specs.Char.{encode_utf8}
use Rattle.std.specs.Char.Escape.{encode_utf16}
use Rattle.std.specs.Char.Utf16.{is_high_surrogate, is_low_surrogate, lone_unit_char, surrogate_pair_char, utf16_chars}
use Rattle.std.specs.Prelude.{nat_lt}
use Rattle.std.specs.Str.{all_scalars, encode_utf8_all}
use Rattle.rs_encodings.specs.declared.encoding.ByteOrder.{ByteOrder}
use Rattle.rs_encodings.specs.declared.encoding.ByteOrder.TheVariants.{HighFirst, LowFirst}
use Rattle.rs_encodings.specs.declared.encoding.Encoding.TheVariants.{ByMark}
use Rattle.rs_encodings.specs.Encoded.{bytes_of, byte_order_mark, utf16_bytes}
use Rattle.rs_encodings.specs.Texts.{decoded, text_after_units, units_of, utf16_text, utf8_of}
use Rattle.rs_encodings.proofs.Characters.{chars_alone, chars_paired}
use borrow.Author.Tests.{ltb-false}
use lib.Utf8.{scalar_cases, scalar}

low_unit : (u : ℕ) → u % 256 + 256 * (u / 256) ≡ u
low_unit u = omega arith

high_unit : (u : ℕ) → 256 * (u / 256) + u % 256 ≡ u
high_unit u = omega arith

-- the units of the bytes of units are these
units_back : (order : ByteOrder) (us : List ℕ) → units_of order (flat_map (bytes_of order) us) ≡ us
units_back LowFirst [] = refl
units_back HighFirst [] = refl
units_back LowFirst (u ∷ us) = ap (λ v. v ∷ units_of LowFirst (flat_map (bytes_of LowFirst) us)) (low_unit u) ∙ ap (λ vs. u ∷ vs) (units_back LowFirst us)
units_back HighFirst (u ∷ us) = ap (λ v. v ∷ units_of HighFirst (flat_map (bytes_of HighFirst) us)) (high_unit u) ∙ ap (λ vs. u ∷ vs) (units_back HighFirst us)

-- and no byte comes after them
none_after : (order : ByteOrder) (us : List ℕ) → text_after_units (flat_map (bytes_of order) us) ≡ []
none_after LowFirst [] = refl
none_after HighFirst [] = refl
none_after LowFirst (u ∷ us) = none_after LowFirst us
none_after HighFirst (u ∷ us) = none_after HighFirst us

both : (x y : Bool) → (x && y) ≡ true → (x ≡ true) × (y ≡ true)
both true y e = (refl, e)
both false y e = cc

-- a character of one unit is no surrogate
no_high : (c : ℕ) → scalar c ≡ true → is_high_surrogate c ≡ false
no_high c is = elim (scalar_cases c is) [ inl low ↦ grind (arith, nat_tests, low) | inr high ↦ grind (arith, nat_tests, high) ]

lone : (c : ℕ) → scalar c ≡ true → lone_unit_char c ≡ Some c
lone c is = elim (scalar_cases c is) [ inl low ↦ grind (arith, nat_tests, low) | inr high ↦ grind (arith, nat_tests, high) ]

below : (c : ℕ) → scalar c ≡ true → c < 1114112
below c is = elim (scalar_cases c is) [ inl low ↦ omega arith | inr high ↦ omega arith ]

-- the two units of a character
abbrev high_of : ℕ → ℕ
high_of c = 55296 + (c - 65536) / 1024

abbrev low_of : ℕ → ℕ
low_of c = 56320 + (c - 65536) % 1024

is_high : (u : ℕ) → 55296 ≤ u → u < 56320 → is_high_surrogate u ≡ true
is_high u p q = grind (arith, nat_tests)

is_low : (u : ℕ) → 56320 ≤ u → u < 57344 → is_low_surrogate u ≡ true
is_low u p q = grind (arith, nat_tests)

pair_back : (c : ℕ) → 65536 ≤ c → surrogate_pair_char (high_of c) (low_of c) ≡ c
pair_back c h = omega arith

-- the characters of the units of characters are these
chars_back : (cs : List ℕ) → all_scalars cs ≡ true → utf16_chars (flat_map encode_utf16 cs) ≡ map Some cs
unfolding utf16_chars
chars_back [] is = refl
chars_back (c ∷ cs) is =
    let each = both (scalar c) (all_scalars cs) is in
    let rest = flat_map encode_utf16 cs in
    let so_far = chars_back cs each.1 in
    let units : Bool → List ℕ = λ b. cond b (c ∷ []) (high_of c ∷ low_of c ∷ []) in
    elim (nat_lt c 65536) as (λ b. nat_lt c 65536 ≡ b → utf16_chars (units b ++ rest) ≡ Some c ∷ map Some cs) [
      | true ↦ λ small.
          chars_alone c rest (ap (λ b. b && is_low_surrogate (get_or rest 0 0)) (no_high c each.0)) ∙ ap (λ o. o ∷ utf16_chars rest) (lone c each.0) ∙ ap (λ os. Some c ∷ os) so_far
      | false ↦ λ wide.
          let bound = below c each.0 in
          let past : 65536 ≤ c = ltb-false c 65536 wide in
          chars_paired (high_of c) (low_of c) rest (is_high (high_of c) (omega arith) (omega arith)) (is_low (low_of c) (omega arith) (omega arith))
          ∙ ap (λ d. Some d ∷ utf16_chars rest) (pair_back c past) ∙ ap (λ os. Some c ∷ os) so_far
    ] refl

texts_back : (cs : List ℕ) → flat_map utf8_of (map Some cs) ≡ encode_utf8_all cs
texts_back [] = refl
texts_back (c ∷ cs) = ap (λ t. encode_utf8 c ++ t) (texts_back cs)

text_back : (order : ByteOrder) (cs : List ℕ) → all_scalars cs ≡ true → utf16_text order (utf16_bytes order cs) ≡ encode_utf8_all cs
text_back order cs is =
    let us = flat_map encode_utf16 cs in
    ap (λ t. flat_map utf8_of (utf16_chars (units_of order (flat_map (bytes_of order) us))) ++ t) (none_after order us)
    ∙ append-nil (flat_map utf8_of (utf16_chars (units_of order (flat_map (bytes_of order) us)))) ∙ ap (λ vs. flat_map utf8_of (utf16_chars vs)) (units_back order us)
    ∙ ap (flat_map utf8_of) (chars_back cs is) ∙ texts_back cs

pub marked_back : (order : ByteOrder) (cs : List ℕ) → all_scalars cs ≡ true → decoded ByMark (utf16_bytes order (byte_order_mark ∷ cs)) ≡ encode_utf8_all (byte_order_mark ∷ cs)
marked_back LowFirst cs is = text_back LowFirst (byte_order_mark ∷ cs) is
marked_back HighFirst cs is = text_back HighFirst (byte_order_mark ∷ cs) is
