-- A quoted text of a line of text is text: UTF-8 without control bytes.
use Rattle.std.proofs.Common.{◌≡◌, ◌≢◌, ◌∙◌, ℕ, ◌+◌, ◌-◌, Bool, true, false, ◌||◌, not, List, [], ◌∷◌, ◌++◌, take, drop, refl, sym, ap, subst, eqb-true, arith}
use Rattle.std.specs.Prelude.{◌==◌, IsTrue, if◌then◌else◌}
use Rattle.std.specs.Char.{encode_utf8}
use Rattle.std.specs.List.{list_any}
use Rattle.std.specs.Str.{IsUtf8, is_utf8, encode_utf8_all, all_scalars}
use Rattle.std.proofs.lemmas.Bool.{and_parts, and_from, false≢true}
use Rattle.std.proofs.lemmas.List.{take-append-drop}
use Rattle.std.proofs.lemmas.List.Folds.{list_any-append}
use Rattle.std.proofs.lemmas.Str.{IsUtf8-nil, IsUtf8-append, IsUtf8-encode, IsUtf8-drop, IsUtf8-between, IsUtf8-from_is_utf8, is_utf8-from_IsUtf8, lead_after_ascii}
use Rattle.rs_value.specs.Values.{is_control, is_text}
use Rattle.rs_lexer.specs.declared.token.Token.{Token}
use Rattle.rs_lexer.specs.Lexis.{token_text, IsTokenOf}
use Rattle.rs_lexer.proofs.TokenLaws.{first_is_ascii, start_boundary, end_boundary}
use Rattle.rs_syntax.specs.Written.{unquoted, unquoted_rest}
use Rattle.rs_syntax.proofs.UnquotedLaws.{unquoted-behind, unquoted-other, unquoted-quote, unquoted-first_byte}

-- ---- UTF-8

not_quote : (c : ℕ) → (c == 39) ≡ false → c ≢ 39
not_quote c other is = false≢true (sym other ∙ subst (λ (d : ℕ). (d == 39) ≡ true) (sym is) refl)

rest_utf8 : (characters : List ℕ) (behind_quote : Bool) → all_scalars characters ≡ true → IsUtf8 (unquoted_rest behind_quote (encode_utf8_all characters))
rest_utf8 [] behind_quote scalars = IsUtf8-nil
rest_utf8 (c ∷ cs) true scalars =
    let parts = and_parts _ (all_scalars cs) scalars in
    subst IsUtf8 (sym (unquoted-behind c (encode_utf8_all cs))) (IsUtf8-append (encode_utf8 c) _ (IsUtf8-encode c parts.0) (rest_utf8 cs false parts.1))
rest_utf8 (c ∷ cs) false scalars =
    let parts = and_parts _ (all_scalars cs) scalars in
    elim (c == 39) as (λ b. (c == 39) ≡ b → IsUtf8 (unquoted_rest false (encode_utf8 c ++ encode_utf8_all cs))) [
      | true ↦ λ is. subst IsUtf8 (sym (unquoted-quote c (encode_utf8_all cs) (eqb-true c 39 is))) (rest_utf8 cs true parts.1)
      | false ↦ λ other. subst IsUtf8 (sym (unquoted-other false c (encode_utf8_all cs) (not_quote c other))) (IsUtf8-append (encode_utf8 c) _ (IsUtf8-encode c parts.0) (rest_utf8 cs false parts.1))
    ] refl

unquoted_rest-utf8 : (bytes : List ℕ) → IsUtf8 bytes → IsUtf8 (unquoted_rest false bytes)
unquoted_rest-utf8 bytes u = subst (λ bs. IsUtf8 (unquoted_rest false bs)) u.1.1 (rest_utf8 u.0 false u.1.0)

-- ---- control bytes

either_none : (a b : Bool) → a || b ≡ false → (a ≡ false) × (b ≡ false)
either_none true b e = absurd (false≢true (sym e))
either_none false b e = (refl, e)

both_none : (a b : Bool) → a ≡ false → b ≡ false → a || b ≡ false
both_none true b e f = e
both_none false b e f = f

rest_plain : (bytes : List ℕ) (behind_quote : Bool) → list_any is_control bytes ≡ false → list_any is_control (unquoted_rest behind_quote bytes) ≡ false
rest_plain [] behind_quote plain = refl
rest_plain (byte ∷ bytes) true plain =
    let parts = either_none (is_control byte) (list_any is_control bytes) plain in
    both_none (is_control byte) _ parts.0 (rest_plain bytes false parts.1)
rest_plain (byte ∷ bytes) false plain =
    let parts = either_none (is_control byte) (list_any is_control bytes) plain in
    elim (byte == 39) as (λ b. list_any is_control (if b then unquoted_rest true bytes else byte ∷ unquoted_rest false bytes) ≡ false) [
      | true ↦ rest_plain bytes true parts.1
      | false ↦ both_none (is_control byte) _ parts.0 (rest_plain bytes false parts.1)
    ]

drop_plain : (n : ℕ) (bytes : List ℕ) → list_any is_control bytes ≡ false → list_any is_control (drop n bytes) ≡ false
drop_plain n bytes plain =
    (either_none (list_any is_control (take n bytes)) (list_any is_control (drop n bytes))
    (sym (list_any-append is_control (take n bytes) (drop n bytes)) ∙ ap (list_any is_control) (take-append-drop n bytes) ∙ plain)).1

take_plain : (n : ℕ) (bytes : List ℕ) → list_any is_control bytes ≡ false → list_any is_control (take n bytes) ≡ false
take_plain n bytes plain =
    (either_none (list_any is_control (take n bytes)) (list_any is_control (drop n bytes))
    (sym (list_any-append is_control (take n bytes) (drop n bytes)) ∙ ap (list_any is_control) (take-append-drop n bytes) ∙ plain)).0

-- ---- texts

not_false : (b : Bool) → not b ≡ true → b ≡ false
not_false true e = absurd (false≢true e)
not_false false e = refl

not_from : (b : Bool) → b ≡ false → not b ≡ true
not_from true e = absurd (false≢true (sym e))
not_from false e = refl

text-parts : (bytes : List ℕ) → is_text bytes ≡ true → IsUtf8 bytes × (list_any is_control bytes ≡ false)
text-parts bytes is =
    let parts = and_parts (is_utf8 bytes) (not (list_any is_control bytes)) is in
    (IsUtf8-from_is_utf8 bytes parts.0, not_false (list_any is_control bytes) parts.1)

text-from : (bytes : List ℕ) → IsUtf8 bytes → list_any is_control bytes ≡ false → is_text bytes ≡ true
text-from bytes u plain = and_from (is_utf8 bytes) (not (list_any is_control bytes)) (is_utf8-from_IsUtf8 bytes u) (not_from (list_any is_control bytes) plain)

token_utf8 : (line : List ℕ) (token : Token) → IsTokenOf line token → IsUtf8 line → IsUtf8 (token_text line token)
token_utf8 line token is u =
    let far : token.first + token.length - token.first ≡ token.length = omega arith in
    subst (λ n. IsUtf8 (take n (drop token.first line))) far
    (IsUtf8-between line token.first (token.first + token.length) u (omega arith) (start_boundary line token is) (end_boundary line token is u))

-- the text between the quotes of a token
pub quoted_is_text : (line : List ℕ) (token : Token) → IsTokenOf line token → IsTrue (is_text line) → IsTrue (is_text (unquoted (token_text line token)))
quoted_is_text line token is clean =
    let parts = text-parts line clean in
    let first = first_is_ascii (token_text line token) token.kind is.kind in
    let whole = token_utf8 line token is parts.0 in
    let behind : IsUtf8 (drop 1 (token_text line token)) = IsUtf8-drop (token_text line token) 1 whole (omega (arith, first.0), λ lt. lead_after_ascii (token_text line token) 0 whole first.1 lt) in
    let plain : list_any is_control (drop 1 (token_text line token)) ≡ false = drop_plain 1 (token_text line token) (take_plain token.length (drop token.first line) (drop_plain token.first line parts.1)) in
    ap is_text (unquoted-first_byte (token_text line token) first.0)
    ∙ text-from (unquoted_rest false (drop 1 (token_text line token))) (unquoted_rest-utf8 (drop 1 (token_text line token)) behind) (rest_plain (drop 1 (token_text line token)) false plain)
