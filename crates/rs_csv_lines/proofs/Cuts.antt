-- Where a token ends in a line, and the cut of the line that begins with it.
use Rattle.std.proofs.Common.{◌≡◌, ◌∙◌, ℕ, suc, ◌+◌, ◌-◌, ◌<◌, Bool, true, false, List, [], ◌∷◌, ◌++◌, length, take, drop, Some, None, refl, sym, ap, subst, length-append, length-drop, arith}
use Rattle.std.specs.Prelude.{◌==◌, ◌&&◌, if◌then◌else◌, codes, slice_index, Option}
use Rattle.std.specs.Char.{is_ascii_alphabetic, is_ascii_digit}
use Rattle.std.specs.List.{list_all}
use Rattle.std.proofs.Math.Seq.{take-append_seam, take-append-add, drop-append_seam, drop-drop}
use Rattle.std.proofs.lemmas.Bool.{false≢true}
use Rattle.rs_grammar.specs.declared.kind.TokenKind.{TokenKind}
use Rattle.rs_grammar.specs.declared.kind.TokenKind.TheVariants as kinds
use Rattle.rs_grammar.specs.Words.{is_word_byte}
use Rattle.rs_lexer.specs.declared.token.Token.{Token}
use Rattle.rs_lexer.specs.Lexis.{reserved, word_kind, is_whole, is_fraction, is_quoted_rest, single_kind, less_kind, greater_kind, alone, token_kind, token_text, IsLongestToken, AreTokensFrom, at_blank, at_token}
use Rattle.rs_syntax_laws.proofs.MovedTexts.{slice_index-drop}

-- a byte that no token goes on with
pub data IsSeparator : ℕ → Type 0 where
  blank : IsSeparator 32
  closing : IsSeparator 41
  comma : IsSeparator 44
  percent : IsSeparator 37
  plus : IsSeparator 43
  minus : IsSeparator 45

record IsPlain (byte : ℕ) : Type 0 where
  word : is_word_byte byte ≡ false
  digit : is_ascii_digit byte ≡ false
  point : (byte == 46) ≡ false
  quote : (byte == 39) ≡ false
  equal : (byte == 61) ≡ false
  greater : (byte == 62) ≡ false

plain : (byte : ℕ) → IsSeparator byte → IsPlain byte
plain byte blank = record { word = refl; digit = refl; point = refl; quote = refl; equal = refl; greater = refl }
plain byte closing = record { word = refl; digit = refl; point = refl; quote = refl; equal = refl; greater = refl }
plain byte comma = record { word = refl; digit = refl; point = refl; quote = refl; equal = refl; greater = refl }
plain byte percent = record { word = refl; digit = refl; point = refl; quote = refl; equal = refl; greater = refl }
plain byte plus = record { word = refl; digit = refl; point = refl; quote = refl; equal = refl; greater = refl }
plain byte minus = record { word = refl; digit = refl; point = refl; quote = refl; equal = refl; greater = refl }

-- ---- it ends each token

and_right : (a b : Bool) → b ≡ false → a && b ≡ false
and_right true b e = e
and_right false b e = refl

not_all : (test : ℕ → Bool) (bytes : List ℕ) (byte : ℕ) (more : List ℕ) → test byte ≡ false → list_all test (bytes ++ byte ∷ more) ≡ false
not_all test [] byte more other = rw other refl
not_all test (b ∷ bs) byte more other = and_right (test b) _ (not_all test bs byte more other)

false_if : (b : Bool) (x y : Bool) → x ≡ false → y ≡ false → (if b then x else y) ≡ false
false_if true x y p q = p
false_if false x y p q = q

none_if : (b : Bool) (x y : Option TokenKind) → x ≡ None → y ≡ None → (if b then x else y) ≡ None
none_if true x y p q = p
none_if false x y p q = q

no_whole : (bytes : List ℕ) (byte : ℕ) (more : List ℕ) → IsPlain byte → is_whole (bytes ++ byte ∷ more) ≡ false
no_whole [] byte more is = rw is.digit refl
no_whole (b ∷ bs) byte more is = false_if (is_ascii_digit b) _ _ (not_all is_ascii_digit bs byte more is.digit) refl

no_fraction : (bytes : List ℕ) (byte : ℕ) (more : List ℕ) → IsPlain byte → is_fraction (bytes ++ byte ∷ more) ≡ false
no_fraction [] byte more is = rw (is.digit, is.point) refl
no_fraction (b ∷ bs) byte more is = false_if (is_ascii_digit b) _ _ (no_fraction bs byte more is) (false_if (b == 46) _ _ (no_whole bs byte more is) refl)

no_quoted : (behind : Bool) (bytes : List ℕ) (byte : ℕ) (more : List ℕ) → IsPlain byte → is_quoted_rest behind bytes ≡ true → is_quoted_rest behind (bytes ++ byte ∷ more) ≡ false
no_quoted true [] byte more is e = rw is.quote refl
no_quoted false [] byte more is e = absurd (false≢true e)
no_quoted true (b ∷ bs) byte more is e =
    elim (b == 39) as (λ v. (if v then is_quoted_rest false bs else false) ≡ true → (if v then is_quoted_rest false (bs ++ byte ∷ more) else false) ≡ false)
    [ true ↦ λ e. no_quoted false bs byte more is e | false ↦ λ e. refl ] e
no_quoted false (b ∷ bs) byte more is e = no_quoted (b == 39) bs byte more is e

no_less : (bytes : List ℕ) (byte : ℕ) (more : List ℕ) → IsPlain byte → less_kind (bytes ++ byte ∷ more) ≡ None
no_less [] byte [] is = rw (is.equal, is.greater) refl
no_less [] byte (m ∷ ms) is = refl
no_less (b ∷ []) byte more is = refl
no_less (b ∷ c ∷ bs) byte more is = refl

no_greater : (bytes : List ℕ) (byte : ℕ) (more : List ℕ) → IsPlain byte → greater_kind (bytes ++ byte ∷ more) ≡ None
no_greater [] byte [] is = rw is.equal refl
no_greater [] byte (m ∷ ms) is = refl
no_greater (b ∷ []) byte more is = refl
no_greater (b ∷ c ∷ bs) byte more is = refl

no_sign : (kind : Option TokenKind) (bytes : List ℕ) (byte : ℕ) (more : List ℕ) → alone kind (bytes ++ byte ∷ more) ≡ None
no_sign kind [] byte more = refl
no_sign kind (b ∷ bs) byte more = refl

some_if : (b : Bool) (kind found : TokenKind) → (if b then Some kind else None) ≡ Some found → b ≡ true
some_if true kind found e = refl
some_if false kind found e = cc

ends_token : (text : List ℕ) (byte : ℕ) (more : List ℕ) (kind : TokenKind) → IsPlain byte → token_kind text ≡ Some kind → token_kind (text ++ byte ∷ more) ≡ None
unfolding token_kind
ends_token [] byte more kind is e = cc
ends_token (first ∷ bs) byte more kind is e =
    let word : (if list_all is_word_byte (bs ++ byte ∷ more) then Some (word_kind (first ∷ (bs ++ byte ∷ more))) else None) ≡ None = rw (not_all is_word_byte bs byte more is.word) refl in
    let digits : (if list_all is_ascii_digit (bs ++ byte ∷ more) then Some kinds.Whole else if is_fraction (bs ++ byte ∷ more) then Some kinds.Decimal else None) ≡ None =
    rw (not_all is_ascii_digit bs byte more is.digit, no_fraction bs byte more is) refl in
    let signs : (if first == 60 then less_kind (bs ++ byte ∷ more) else if first == 62 then greater_kind (bs ++ byte ∷ more) else alone (single_kind first) (bs ++ byte ∷ more)) ≡ None =
    none_if (first == 60) _ _ (no_less bs byte more is) (none_if (first == 62) _ _ (no_greater bs byte more is) (no_sign (single_kind first) bs byte more)) in
    elim (is_ascii_alphabetic first) as (λ v.
    (if v then (if list_all is_word_byte bs then Some (word_kind (first ∷ bs)) else None) else (if is_ascii_digit first then (if list_all is_ascii_digit bs then Some kinds.Whole else if is_fraction bs then Some kinds.Decimal else None) else (if first == 39 then (if is_quoted_rest false bs then Some kinds.Quoted else None) else (if first == 60 then less_kind bs else (if first == 62 then greater_kind bs else alone (single_kind first) bs))))) ≡ Some kind
    → (if v then (if list_all is_word_byte (bs ++ byte ∷ more) then Some (word_kind (first ∷ (bs ++ byte ∷ more))) else None) else (if is_ascii_digit first then (if list_all is_ascii_digit (bs ++ byte ∷ more) then Some kinds.Whole else if is_fraction (bs ++ byte ∷ more) then Some kinds.Decimal else None) else (if first == 39 then (if is_quoted_rest false (bs ++ byte ∷ more) then Some kinds.Quoted else None) else (if first == 60 then less_kind (bs ++ byte ∷ more) else (if first == 62 then greater_kind (bs ++ byte ∷ more) else alone (single_kind first) (bs ++ byte ∷ more)))))) ≡ None) [
      | true ↦ λ e. word
      | false ↦ elim (is_ascii_digit first) as (λ v.
          (if v then (if list_all is_ascii_digit bs then Some kinds.Whole else if is_fraction bs then Some kinds.Decimal else None) else (if first == 39 then (if is_quoted_rest false bs then Some kinds.Quoted else None) else (if first == 60 then less_kind bs else (if first == 62 then greater_kind bs else alone (single_kind first) bs)))) ≡ Some kind
          → (if v then (if list_all is_ascii_digit (bs ++ byte ∷ more) then Some kinds.Whole else if is_fraction (bs ++ byte ∷ more) then Some kinds.Decimal else None) else (if first == 39 then (if is_quoted_rest false (bs ++ byte ∷ more) then Some kinds.Quoted else None) else (if first == 60 then less_kind (bs ++ byte ∷ more) else (if first == 62 then greater_kind (bs ++ byte ∷ more) else alone (single_kind first) (bs ++ byte ∷ more))))) ≡ None) [
            | true ↦ λ e. digits
            | false ↦ elim (first == 39) as (λ v.
                (if v then (if is_quoted_rest false bs then Some kinds.Quoted else None) else (if first == 60 then less_kind bs else (if first == 62 then greater_kind bs else alone (single_kind first) bs))) ≡ Some kind
                → (if v then (if is_quoted_rest false (bs ++ byte ∷ more) then Some kinds.Quoted else None) else (if first == 60 then less_kind (bs ++ byte ∷ more) else (if first == 62 then greater_kind (bs ++ byte ∷ more) else alone (single_kind first) (bs ++ byte ∷ more)))) ≡ None) [
                  | true ↦ λ e. rw (no_quoted false bs byte more is (some_if (is_quoted_rest false bs) kinds.Quoted kind e)) refl
                  | false ↦ λ e. signs
                ]
          ]
    ] e

-- no token goes on as the line does
abbrev pub Stops : List ℕ → List ℕ → Type 0
Stops text [] = Unit {0}
Stops text (byte ∷ bytes) = (more : List ℕ) → token_kind (text ++ byte ∷ more) ≡ None

-- the line ends, or a separator is next
abbrev pub Ends : List ℕ → Type 0
Ends [] = Unit {0}
Ends (byte ∷ bytes) = IsSeparator byte

pub stops : (text rest : List ℕ) (kind : TokenKind) → token_kind text ≡ Some kind → Ends rest → Stops text rest
stops text [] kind is ends = tt
stops text (byte ∷ bytes) kind is ends = λ more. ends_token text byte more kind (plain byte ends) is

longer_none : (text rest : List ℕ) (n : ℕ) → Stops text rest → n < length rest → token_kind (text ++ take (suc n) rest) ≡ None
longer_none text [] n ends within = absurd (omega arith)
longer_none text (byte ∷ bytes) n ends within = ends (take n bytes)

longest : (text rest : List ℕ) (kind : TokenKind) → token_kind text ≡ Some kind → Stops text rest → IsLongestToken (text ++ rest) kind (length text)
longest text rest kind is ends = record {
  inside = omega (arith, length-append text rest);
  token = ap token_kind (take-append_seam text rest) ∙ is;
  longest = λ longer more within.
      let n : longer ≡ length text + suc (longer - length text - 1) = omega arith in
      ap (λ m. token_kind (take m (text ++ rest))) n
      ∙ ap token_kind (take-append-add text rest (suc (longer - length text - 1)))
      ∙ longer_none text rest (longer - length text - 1) ends (omega (arith, length-append text rest));
}

-- the token that a text is at a place
abbrev pub token_here : ℕ → List ℕ → TokenKind → Token
token_here place text kind = record { kind = kind; first = place; length = length text }

-- its bytes
pub text_here : (line : List ℕ) (place : ℕ) (text rest : List ℕ) (kind : TokenKind) → drop place line ≡ text ++ rest → token_text line (token_here place text kind) ≡ text
text_here line place text rest kind at = ap (take (length text)) at ∙ take-append_seam text rest

-- what follows
pub after_here : (line : List ℕ) (place : ℕ) (text rest : List ℕ) → drop place line ≡ text ++ rest → drop (place + length text) line ≡ rest
after_here line place text rest at = sym (drop-drop (length text) place line) ∙ ap (drop (length text)) at ∙ drop-append_seam text rest

-- the cut of the line from here on begins with it
pub cut_here : (line : List ℕ) (place : ℕ) (text rest : List ℕ) (kind : TokenKind) → drop place line ≡ text ++ rest → token_kind text ≡ Some kind → Stops text rest
    → (tokens : List Token) → AreTokensFrom line (place + length text) tokens → AreTokensFrom line place (token_here place text kind ∷ tokens)
cut_here line place text rest kind at is ends tokens cut = at_token kind (length text) (subst (λ bytes. IsLongestToken bytes kind (length text)) (sym at) (longest text rest kind is ends)) cut

pub blank_here : (line : List ℕ) (place : ℕ) (rest : List ℕ) (tokens : List Token) → drop place line ≡ 32 ∷ rest → AreTokensFrom line (place + 1) tokens → AreTokensFrom line place tokens
blank_here line place rest tokens at cut =
    at_blank (omega (arith, length-drop place line, ap length at)) (sym (slice_index-drop line place) ∙ ap (λ bytes. slice_index bytes 0) at) cut

-- a token after a blank
pub word_here : (line : List ℕ) (place : ℕ) (text rest : List ℕ) (kind : TokenKind) → drop place line ≡ 32 ∷ (text ++ rest) → token_kind text ≡ Some kind → Ends rest
    → (tokens : List Token) → AreTokensFrom line (place + 1 + length text) tokens → AreTokensFrom line place (token_here (place + 1) text kind ∷ tokens)
word_here line place text rest kind at is ends tokens cut =
    blank_here line place (text ++ rest) _ at (cut_here line (place + 1) text rest kind (after_here line place (codes " ") (text ++ rest) at) is (stops text rest kind is ends) tokens cut)

-- what follows that
pub after_word : (line : List ℕ) (place : ℕ) (text rest : List ℕ) → drop place line ≡ 32 ∷ (text ++ rest) → drop (place + 1 + length text) line ≡ rest
after_word line place text rest at = after_here line (place + 1) text rest (after_here line place (codes " ") (text ++ rest) at)

pub word_text : (line : List ℕ) (place : ℕ) (text rest : List ℕ) (kind : TokenKind) → drop place line ≡ 32 ∷ (text ++ rest) → token_text line (token_here (place + 1) text kind) ≡ text
word_text line place text rest kind at = text_here line (place + 1) text rest kind (after_here line place (codes " ") (text ++ rest) at)

-- ---- words and signs

pub insert_kind : token_kind (codes "INSERT") ≡ Some kinds.Insert
unfolding token_kind word_kind reserved
insert_kind = refl

pub into_kind : token_kind (codes "INTO") ≡ Some kinds.Into
unfolding token_kind word_kind reserved
into_kind = refl

pub on_kind : token_kind (codes "ON") ≡ Some kinds.On
unfolding token_kind word_kind reserved
on_kind = refl

pub from_kind : token_kind (codes "FROM") ≡ Some kinds.From
unfolding token_kind word_kind reserved
from_kind = refl

pub to_kind : token_kind (codes "TO") ≡ Some kinds.To
unfolding token_kind word_kind reserved
to_kind = refl

pub at_word_kind : token_kind (codes "AT") ≡ Some kinds.At
unfolding token_kind word_kind reserved
at_word_kind = refl

pub values_kind : token_kind (codes "VALUES") ≡ Some kinds.Values
unfolding token_kind word_kind reserved
values_kind = refl

pub null_kind : token_kind (codes "NULL") ≡ Some kinds.Null
unfolding token_kind word_kind reserved
null_kind = refl

pub opening_kind : token_kind (codes "(") ≡ Some kinds.LeftParen
unfolding token_kind
opening_kind = refl

pub closing_kind : token_kind (codes ")") ≡ Some kinds.RightParen
unfolding token_kind
closing_kind = refl

pub comma_kind : token_kind (codes ",") ≡ Some kinds.Comma
unfolding token_kind
comma_kind = refl

pub at_sign_kind : token_kind (codes "@") ≡ Some kinds.AtSign
unfolding token_kind
at_sign_kind = refl

pub plus_kind : token_kind (codes "+") ≡ Some kinds.PlusSign
unfolding token_kind
plus_kind = refl

pub minus_kind : token_kind (codes "-") ≡ Some kinds.MinusSign
unfolding token_kind
minus_kind = refl

pub percent_kind : token_kind (codes "%") ≡ Some kinds.PercentSign
unfolding token_kind
percent_kind = refl

-- a sign ends whatever follows
pub opening_stops : (rest : List ℕ) → Stops (codes "(") rest
unfolding token_kind
opening_stops [] = tt
opening_stops (byte ∷ bytes) = λ more. refl

pub closing_stops : (rest : List ℕ) → Stops (codes ")") rest
unfolding token_kind
closing_stops [] = tt
closing_stops (byte ∷ bytes) = λ more. refl

pub comma_stops : (rest : List ℕ) → Stops (codes ",") rest
unfolding token_kind
comma_stops [] = tt
comma_stops (byte ∷ bytes) = λ more. refl

pub at_sign_stops : (rest : List ℕ) → Stops (codes "@") rest
unfolding token_kind
at_sign_stops [] = tt
at_sign_stops (byte ∷ bytes) = λ more. refl

pub plus_stops : (rest : List ℕ) → Stops (codes "+") rest
unfolding token_kind
plus_stops [] = tt
plus_stops (byte ∷ bytes) = λ more. refl

pub minus_stops : (rest : List ℕ) → Stops (codes "-") rest
unfolding token_kind
minus_stops [] = tt
minus_stops (byte ∷ bytes) = λ more. refl

pub percent_stops : (rest : List ℕ) → Stops (codes "%") rest
unfolding token_kind
percent_stops [] = tt
percent_stops (byte ∷ bytes) = λ more. refl
