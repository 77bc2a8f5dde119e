-- Texts without their quotes, character by character.
use Rattle.std.proofs.Common.{◌≡◌, ℕ, suc, ◌+◌, ◌<◌, Bool, true, false, List, [], ◌∷◌, ◌++◌, length, drop, get_or, refl, sym, ap, ◌∙◌, append-nil, eqb-true, arith}
use Rattle.std.specs.Prelude.{◌==◌}
use Rattle.std.specs.Char.{encode_utf8}
use Rattle.std.proofs.lemmas.Bool.{false_from_ne_true}
use Rattle.std.proofs.lemmas.Str.{encode_ascii, inside_one, length-encode, len_utf8_bounds}
use Rattle.rs_syntax.specs.Written.{unquoted, unquoted_rest}

-- bytes that are no quotes stand for themselves
unquoted-plain : (bytes rest : List ℕ) → ((k : ℕ) → k < length bytes → get_or bytes k 0 ≡ 39 → ⊥) → unquoted_rest false (bytes ++ rest) ≡ bytes ++ unquoted_rest false rest
unquoted-plain [] rest none = refl
unquoted-plain (byte ∷ bytes) rest none =
    let other : (byte == 39) ≡ false = false_from_ne_true (byte == 39) (λ e. none 0 (omega arith) (eqb-true byte 39 e)) in
    rw other (ap (λ bs. byte ∷ bs) (unquoted-plain bytes rest (λ k h. none (suc k) (omega arith))))

quote_is_one_byte : encode_utf8 39 ≡ 39 ∷ []
quote_is_one_byte = encode_ascii 39 (omega arith)

-- a byte of a character that is a quote is the quote
quote_inside : (character k : ℕ) → k < length (encode_utf8 character) → get_or (encode_utf8 character) k 0 ≡ 39 → character ≡ 39
quote_inside character k h e = inside_one character [] (encode_utf8 character) k (sym (append-nil (encode_utf8 character))) h (omega arith) ∙ e

unquoted-first : (bytes rest : List ℕ) → 0 < length bytes → ((k : ℕ) → k + 1 < length bytes → get_or bytes (suc k) 0 ≡ 39 → ⊥) → unquoted_rest true (bytes ++ rest) ≡ bytes ++ unquoted_rest false rest
unquoted-first [] rest some none = absurd (omega arith)
unquoted-first (byte ∷ bytes) rest some none = ap (λ bs. byte ∷ bs) (unquoted-plain bytes rest (λ k h. none k (omega arith)))

-- a character after a quote stands for itself
pub unquoted-behind : (character : ℕ) (rest : List ℕ) → unquoted_rest true (encode_utf8 character ++ rest) ≡ encode_utf8 character ++ unquoted_rest false rest
unquoted-behind character rest =
    unquoted-first (encode_utf8 character) rest
    (omega (arith, length-encode character, (len_utf8_bounds character).0))
    (λ k h e.
    let quote = quote_inside character (suc k) (omega arith) e in
    let one = ap length (ap encode_utf8 quote ∙ quote_is_one_byte) in
    omega arith)

-- and so does a character that is no quote
pub unquoted-other : (behind_quote : Bool) (character : ℕ) (rest : List ℕ) → (character ≡ 39 → ⊥) → unquoted_rest behind_quote (encode_utf8 character ++ rest) ≡ encode_utf8 character ++ unquoted_rest false rest
unquoted-other true character rest other = unquoted-behind character rest
unquoted-other false character rest other = unquoted-plain (encode_utf8 character) rest (λ k h e. other (quote_inside character k h e))

-- a quote that stands after none may be the closing one
pub unquoted-quote : (character : ℕ) (rest : List ℕ) → character ≡ 39 → unquoted_rest false (encode_utf8 character ++ rest) ≡ unquoted_rest true rest
unquoted-quote character rest e = ap (λ c. unquoted_rest false (encode_utf8 c ++ rest)) e ∙ ap (λ bs. unquoted_rest false (bs ++ rest)) quote_is_one_byte

pub unquoted-first_byte : (quoted : List ℕ) → 0 < length quoted → unquoted quoted ≡ unquoted_rest false (drop 1 quoted)
unquoted-first_byte [] some = absurd (omega arith)
unquoted-first_byte (quote ∷ bytes) some = refl
