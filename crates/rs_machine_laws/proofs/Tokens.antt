-- Which texts are which tokens, and that no more bytes of the line make a longer one.
use Rattle.std.proofs.Common.{◌≡◌, ◌∙◌, ℕ, suc, ◌+◌, ◌-◌, ◌<◌, ◌≤◌, Bool, true, false, ◌&&◌, List, [], ◌∷◌, ◌++◌, length, take, drop, Some, None, refl, sym, ap, subst, append_assoc, length-append, arith}
use Rattle.std.specs.Prelude.{◌==◌, codes}
use Rattle.std.specs.Char.{is_ascii_alphabetic, is_ascii_digit}
use Rattle.std.specs.List.{list_all}
use Rattle.std.proofs.Math.Seq.{take-append_seam, take-append-add, drop-append_seam, drop-drop}
use Rattle.std.proofs.lemmas.Bool.{le-leb}
use Rattle.std.proofs.lemmas.Bool.Decides.{nat_tests}
use Rattle.rs_measure.specs.FixedPoint.{AreDigits}
use Rattle.rs_grammar.specs.declared.kind.TheConstants.{NAME_BYTES}
use Rattle.rs_grammar.specs.declared.kind.TokenKind.{TokenKind}
use Rattle.rs_grammar.specs.declared.kind.TokenKind.TheVariants as kinds
use Rattle.rs_grammar.specs.Words.{is_word_byte}
use Rattle.rs_lexer.specs.declared.token.Token.{Token}
use Rattle.rs_lexer.specs.Lexis.{kind_in, reserved, word_kind, is_whole, is_fraction, token_kind, token_text, IsLongestToken, AreTokensFrom, at_token}
use Rattle.rs_methods.specs.PositionText.{IsWord}
use Rattle.rs_syntax.specs.Written.{has_text}
use Rattle.rs_syntax.specs.Sound.{IsName}

-- no longer token begins with the text, as the line goes on
abbrev pub IsLongest : List ℕ → List ℕ → Type 0
IsLongest text after = (byte : ℕ) (bytes more : List ℕ) → after ≡ byte ∷ bytes → token_kind (text ++ byte ∷ more) ≡ None

first_is : (x y : ℕ) (xs ys : List ℕ) → x ∷ xs ≡ y ∷ ys → x ≡ y
first_is x y xs ys e = ap head e
  where
    head : List ℕ → ℕ
    head [] = x
    head (z ∷ zs) = z

pub next_is : (x byte : ℕ) (xs bytes : List ℕ) → x ∷ xs ≡ byte ∷ bytes → byte ≡ x
next_is x byte xs bytes e = sym (first_is x byte xs bytes e)

-- ---- tokens at a place

longer_none : (text after : List ℕ) (n : ℕ) → IsLongest text after → n < length after → token_kind (text ++ take (suc n) after) ≡ None
longer_none text [] n ends within = absurd (omega arith)
longer_none text (byte ∷ bytes) n ends within = ends byte bytes (take n bytes) refl

longest : (text after : List ℕ) (kind : TokenKind) → token_kind text ≡ Some kind → IsLongest text after → IsLongestToken (text ++ after) kind (length text)
longest text after kind is ends = record {
  inside = omega (arith, length-append text after);
  token = ap token_kind (take-append_seam text after) ∙ is;
  longest = λ longer more within.
      let n : longer ≡ length text + suc (longer - length text - 1) = omega arith in
      ap (λ m. token_kind (take m (text ++ after))) n
      ∙ ap token_kind (take-append-add text after (suc (longer - length text - 1)))
      ∙ longer_none text after (longer - length text - 1) ends (omega (arith, length-append text after));
}

-- the token that a text is at a place
abbrev pub token_here : ℕ → List ℕ → TokenKind → Token
token_here place text kind = record { kind = kind; first = place; length = length text }

-- its bytes
pub text_here : (line : List ℕ) (place : ℕ) (text after : List ℕ) (kind : TokenKind) → drop place line ≡ text ++ after → token_text line (token_here place text kind) ≡ text
text_here line place text after kind at = ap (take (length text)) at ∙ take-append_seam text after

-- what follows
pub after_here : (line : List ℕ) (place : ℕ) (text after : List ℕ) → drop place line ≡ text ++ after → drop (place + length text) line ≡ after
after_here line place text after at = sym (drop-drop (length text) place line) ∙ ap (drop (length text)) at ∙ drop-append_seam text after

-- the cut of the line from here on begins with it
pub cut_here : (line : List ℕ) (place : ℕ) (text after : List ℕ) (kind : TokenKind) → drop place line ≡ text ++ after → token_kind text ≡ Some kind → IsLongest text after
    → (rest : List Token) → AreTokensFrom line (place + length text) rest → AreTokensFrom line place (token_here place text kind ∷ rest)
cut_here line place text after kind at is ends rest cut = at_token kind (length text) (subst (λ bytes. IsLongestToken bytes kind (length text)) (sym at) (longest text after kind is ends)) cut

-- ---- numbers

digit-alphabetic : (byte : ℕ) → 48 ≤ byte → byte ≤ 57 → is_ascii_alphabetic byte ≡ false
digit-alphabetic byte low high = grind (arith, nat_tests)

digit-digit : (byte : ℕ) → 48 ≤ byte → byte ≤ 57 → is_ascii_digit byte ≡ true
digit-digit byte low high = grind (arith, nat_tests)

all_digits : (digits : List ℕ) → AreDigits digits → list_all is_ascii_digit digits ≡ true
all_digits [] are = refl
all_digits (d ∷ ds) are = rw (digit-digit d are.0 are.1) (all_digits ds are.2)

and_right : (a b : Bool) → b ≡ false → a && b ≡ false
and_right true b e = e
and_right false b e = refl

not_all_digits : (digits : List ℕ) (byte : ℕ) (more : List ℕ) → is_ascii_digit byte ≡ false → list_all is_ascii_digit (digits ++ byte ∷ more) ≡ false
not_all_digits [] byte more other = rw other refl
not_all_digits (d ∷ ds) byte more other = and_right (is_ascii_digit d) _ (not_all_digits ds byte more other)

no_fraction : (digits : List ℕ) (byte : ℕ) (more : List ℕ) → AreDigits digits → is_ascii_digit byte ≡ false → (byte == 46) ≡ false → is_fraction (digits ++ byte ∷ more) ≡ false
no_fraction [] byte more are other no_point = rw (other, no_point) refl
no_fraction (d ∷ ds) byte more are other no_point = rw (digit-digit d are.0 are.1) (no_fraction ds byte more are.2 other no_point)

whole-all : (digits : List ℕ) → AreDigits digits → 1 ≤ length digits → is_whole digits ≡ true
whole-all [] are some = absurd (omega arith)
whole-all (d ∷ ds) are some = rw (digit-digit d are.0 are.1) (all_digits ds are.2)

whole-none : (digits : List ℕ) (byte : ℕ) (more : List ℕ) → AreDigits digits → 1 ≤ length digits → is_ascii_digit byte ≡ false → is_whole (digits ++ byte ∷ more) ≡ false
whole-none [] byte more are some other = absurd (omega arith)
whole-none (d ∷ ds) byte more are some other = rw (digit-digit d are.0 are.1) (not_all_digits ds byte more other)

fraction-is : (whole rest : List ℕ) (b : Bool) → AreDigits whole → is_whole rest ≡ b → is_fraction (whole ++ 46 ∷ rest) ≡ b
fraction-is [] rest b are is = is
fraction-is (d ∷ ds) rest b are is = rw (digit-digit d are.0 are.1) (fraction-is ds rest b are.2 is)

-- a number: its kind, and that only digits and a point make it longer
pub record IsNumber (text : List ℕ) (kind : TokenKind) : Type 0 where
  pub is : token_kind text ≡ Some kind
  pub told : has_text kind ≡ true
  pub ends : (byte : ℕ) (more : List ℕ) → is_ascii_digit byte ≡ false → (byte == 46) ≡ false → token_kind (text ++ byte ∷ more) ≡ None

pub whole_number : (digits : List ℕ) → AreDigits digits → 1 ≤ length digits → IsNumber digits kinds.Whole
unfolding token_kind
whole_number [] are some = absurd (omega arith)
whole_number (d ∷ ds) are some = record {
  is = rw (digit-alphabetic d are.0 are.1, digit-digit d are.0 are.1, all_digits ds are.2) refl;
  told = refl;
  ends = λ byte more other no_point. rw (digit-alphabetic d are.0 are.1, digit-digit d are.0 are.1, not_all_digits ds byte more other, no_fraction ds byte more are.2 other no_point) refl;
}

decimal_number : (whole decimals : List ℕ) → AreDigits whole → 1 ≤ length whole → AreDigits decimals → 1 ≤ length decimals → IsNumber (whole ++ 46 ∷ decimals) kinds.Decimal
unfolding token_kind
decimal_number [] decimals are some parts more = absurd (omega arith)
decimal_number (d ∷ ds) decimals are some parts some_parts = record {
  is = rw (digit-alphabetic d are.0 are.1, digit-digit d are.0 are.1, not_all_digits ds 46 decimals refl, fraction-is ds decimals true are.2 (whole-all decimals parts some_parts)) refl;
  told = refl;
  ends = λ byte more other no_point.
      let joined : (ds ++ 46 ∷ decimals) ++ byte ∷ more ≡ ds ++ 46 ∷ (decimals ++ byte ∷ more) = append_assoc ds (46 ∷ decimals) (byte ∷ more) in
      rw (joined, digit-alphabetic d are.0 are.1, digit-digit d are.0 are.1, not_all_digits ds 46 (decimals ++ byte ∷ more) refl, fraction-is ds (decimals ++ byte ∷ more) false are.2 (whole-none decimals byte more parts some_parts other)) refl;
}

pub parts_number : (text whole decimals : List ℕ) → text ≡ whole ++ codes "." ++ decimals → AreDigits whole → 1 ≤ length whole → AreDigits decimals → 1 ≤ length decimals → IsNumber text kinds.Decimal
parts_number text whole decimals cut are some parts some_parts = subst (λ t. IsNumber t kinds.Decimal) (sym (cut ∙ append_assoc whole (46 ∷ []) decimals)) (decimal_number whole decimals are some parts some_parts)

-- a byte that is no digit and no point ends a number
pub number_ends : (text after : List ℕ) (kind : TokenKind) → IsNumber text kind → ((byte : ℕ) (bytes : List ℕ) → after ≡ byte ∷ bytes → (is_ascii_digit byte ≡ false) × ((byte == 46) ≡ false)) → IsLongest text after
number_ends text after kind number next byte bytes more e = let n = next byte bytes e in number.ends byte more n.0 n.1

-- ---- words

not_all_word : (letters : List ℕ) (byte : ℕ) (more : List ℕ) → is_word_byte byte ≡ false → list_all is_word_byte (letters ++ byte ∷ more) ≡ false
not_all_word [] byte more other = rw other refl
not_all_word (l ∷ ls) byte more other = and_right (is_word_byte l) _ (not_all_word ls byte more other)

pub word_ends : (text after : List ℕ) → IsWord text → ((byte : ℕ) (bytes : List ℕ) → after ≡ byte ∷ bytes → is_word_byte byte ≡ false) → IsLongest text after
unfolding token_kind
word_ends [] after word next byte bytes more e = absurd word
word_ends (letter ∷ letters) after word next byte bytes more e = rw (word.0, not_all_word letters byte more (next byte bytes e)) refl

named : (name : List ℕ) → kind_in reserved name ≡ None → length name ≤ NAME_BYTES → word_kind name ≡ kinds.Name
unfolding word_kind
named name free short = rw (free, le-leb (length name) NAME_BYTES short) refl

word_is_name : (bytes : List ℕ) → IsWord bytes → word_kind bytes ≡ kinds.Name → token_kind bytes ≡ Some kinds.Name
unfolding token_kind
word_is_name [] word named = absurd word
word_is_name (letter ∷ letters) word named = rw (word.0, word.1, named) refl

pub name_kind : (name : List ℕ) → IsName name → token_kind name ≡ Some kinds.Name
name_kind name is = word_is_name name is.word (named name is.not_reserved is.short)

-- ---- signs

pub at_kind : token_kind (codes "@") ≡ Some kinds.AtSign
unfolding token_kind
at_kind = refl

pub plus_kind : token_kind (codes "+") ≡ Some kinds.PlusSign
unfolding token_kind
plus_kind = refl

pub minus_kind : token_kind (codes "-") ≡ Some kinds.MinusSign
unfolding token_kind
minus_kind = refl

pub percent_kind : token_kind (codes "%") ≡ Some kinds.PercentSign
unfolding token_kind
percent_kind = refl

pub at_ends : (after : List ℕ) → IsLongest (codes "@") after
unfolding token_kind
at_ends after byte bytes more e = refl

pub plus_ends : (after : List ℕ) → IsLongest (codes "+") after
unfolding token_kind
plus_ends after byte bytes more e = refl

pub minus_ends : (after : List ℕ) → IsLongest (codes "-") after
unfolding token_kind
minus_ends after byte bytes more e = refl

pub percent_ends : (after : List ℕ) → IsLongest (codes "%") after
unfolding token_kind
percent_ends after byte bytes more e = refl
