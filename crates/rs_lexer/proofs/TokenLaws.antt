-- What the bytes of a token are like: where it may be cut out of a line, and what a name is.
use Rattle.std.proofs.Common.{◌≡◌, ℕ, ◌+◌, ◌-◌, ◌<◌, ◌≤◌, Bool, true, false, List, [], ◌∷◌, length, take, drop, get_or, Option, Some, None, refl, sym, ap, ◌∙◌, subst, ⊎_elim, arith, leb-true, eqb-true, add-zero, get_or-drop, get_or-take, length-drop, length-take-le}
use Rattle.std.specs.Prelude.{◌==◌, ◌&&◌, nat_le, if◌then◌else◌, slice_index, unwrap_or, IfSome}
use Rattle.std.specs.Char.{is_ascii_alphabetic, is_ascii_digit}
use Rattle.std.specs.List.{list_all}
use Rattle.std.specs.Str.{bytes_eq, IsUtf8, IsCharBoundary}
use Rattle.std.proofs.lemmas.Bool.{cases_lt, false≢true, and_parts, and_from}
use Rattle.std.proofs.lemmas.Bool.Decides.{nat_tests}
use Rattle.std.proofs.Math.Seq.{take-length}
use Rattle.std.proofs.lemmas.Str.{IsCharBoundary-before_ascii, IsCharBoundary-after_ascii}
use Rattle.rs_grammar.specs.declared.kind.TheConstants.{NAME_BYTES}
use Rattle.rs_grammar.specs.declared.kind.TokenKind.{TokenKind}
use Rattle.rs_grammar.specs.declared.kind.TokenKind.TheVariants as kinds
use Rattle.rs_lexer.specs.States.{State}
use Rattle.rs_lexer.specs.States as states
use Rattle.rs_lexer.specs.declared.token.Token.{Token}
use Rattle.rs_grammar.specs.Words.{is_word_byte}
use Rattle.rs_lexer.specs.Lexis.{reserved, kind_in, word_kind, is_fraction, is_quoted_rest, single_kind, less_kind, greater_kind, alone, token_kind, token_text, IsTokenOf}
use Rattle.rs_lexer.specs.Scanning.{after_start, after, accepts, run, symbol_state}
use Rattle.rs_lexer.proofs.ScanningLaws.{no_kind, run-next, run-dead}

-- a letter, then letters, digits and `_`
abbrev pub is_word : List ℕ → Bool
is_word [] = false
is_word (byte ∷ bytes) = is_ascii_alphabetic byte && list_all is_word_byte bytes

-- a name: a word, not too long and not reserved
pub record IsNameText (text : List ℕ) : Type 0 where
  pub word : is_word text ≡ true
  pub short : length text ≤ NAME_BYTES
  pub free : kind_in reserved text ≡ None

-- What the kind of a token tells of its bytes.
abbrev pub Tells : TokenKind → List ℕ → Type 0
Tells kinds.Name text = IsNameText text
Tells kinds.Quoted text = slice_index text 0 ≡ 39
Tells _ text = Unit {0}

abbrev tells_nothing : TokenKind → Bool
tells_nothing kinds.Name = false
tells_nothing kinds.Quoted = false
tells_nothing _ = true

Tells-nothing : (kind : TokenKind) (text : List ℕ) → tells_nothing kind ≡ true → Tells kind text
Tells-nothing kinds.Name text e = absurd (false≢true e)
Tells-nothing kinds.Quoted text e = absurd (false≢true e)
Tells-nothing _ text e = tt

kind_in-tells : (rows : List (List ℕ × TokenKind)) (word text : List ℕ) → list_all (λ row. tells_nothing row.1) rows ≡ true → IfSome (kind_in rows word) (λ kind. Tells kind text)
kind_in-tells [] word text e = tt
kind_in-tells (row ∷ rows) word text e =
    let p = and_parts (tells_nothing row.1) (list_all (λ r. tells_nothing r.1) rows) e in
    elim (bytes_eq row.0 word) as (λ b. IfSome (if b then Some row.1 else kind_in rows word) (λ kind. Tells kind text))
    [ true ↦ Tells-nothing row.1 text p.0 | false ↦ kind_in-tells rows word text p.1 ]

reserved_tell_nothing : list_all (λ row. tells_nothing row.1) reserved ≡ true
unfolding reserved
reserved_tell_nothing = refl

unwrap_or-tells : (kind : Option TokenKind) (other : TokenKind) (text : List ℕ) → IfSome kind (λ k. Tells k text) → (kind ≡ None → Tells other text) → Tells (unwrap_or kind other) text
unwrap_or-tells None other text p q = q refl
unwrap_or-tells (Some kind) other text p q = p

word_kind-tells : (word : List ℕ) → is_word word ≡ true → Tells (word_kind word) word
unfolding word_kind
word_kind-tells word is =
    unwrap_or-tells (kind_in reserved word) (if nat_le (length word) NAME_BYTES then kinds.Name else kinds.LongWord) word
    (kind_in-tells reserved word word reserved_tell_nothing)
    (λ free. elim (nat_le (length word) NAME_BYTES) as (λ b. nat_le (length word) NAME_BYTES ≡ b → Tells (if b then kinds.Name else kinds.LongWord) word)
    [ true ↦ λ e. record { word = is; short = leb-true (length word) NAME_BYTES e; free = free } | false ↦ λ e. tt ] refl)

abbrev pub TellsSome : Option TokenKind → List ℕ → Type 0
TellsSome kind text = IfSome kind (λ k. Tells k text)

TellsSome-if : (b : Bool) (x y : Option TokenKind) (text : List ℕ) → TellsSome x text → TellsSome y text → TellsSome (if b then x else y) text
TellsSome-if true x y text p q = p
TellsSome-if false x y text p q = q

TellsSome-test : (b : Bool) (x y : Option TokenKind) (text : List ℕ) → (b ≡ true → TellsSome x text) → TellsSome y text → TellsSome (if b then x else y) text
TellsSome-test true x y text p q = p refl
TellsSome-test false x y text p q = q

single_kind-tells : (byte : ℕ) (text : List ℕ) → TellsSome (single_kind byte) text
single_kind-tells byte text = TellsSome-if (byte == 40) (Some kinds.LeftParen) (if byte == 41 then Some kinds.RightParen else (if byte == 44 then Some kinds.Comma else (if byte == 61 then Some kinds.Equal else (if byte == 43 then Some kinds.PlusSign else (if byte == 45 then Some kinds.MinusSign else (if byte == 64 then Some kinds.AtSign else (if byte == 37 then Some kinds.PercentSign else None))))))) text tt (TellsSome-if (byte == 41) (Some kinds.RightParen) (if byte == 44 then Some kinds.Comma else (if byte == 61 then Some kinds.Equal else (if byte == 43 then Some kinds.PlusSign else (if byte == 45 then Some kinds.MinusSign else (if byte == 64 then Some kinds.AtSign else (if byte == 37 then Some kinds.PercentSign else None)))))) text tt (TellsSome-if (byte == 44) (Some kinds.Comma) (if byte == 61 then Some kinds.Equal else (if byte == 43 then Some kinds.PlusSign else (if byte == 45 then Some kinds.MinusSign else (if byte == 64 then Some kinds.AtSign else (if byte == 37 then Some kinds.PercentSign else None))))) text tt (TellsSome-if (byte == 61) (Some kinds.Equal) (if byte == 43 then Some kinds.PlusSign else (if byte == 45 then Some kinds.MinusSign else (if byte == 64 then Some kinds.AtSign else (if byte == 37 then Some kinds.PercentSign else None)))) text tt (TellsSome-if (byte == 43) (Some kinds.PlusSign) (if byte == 45 then Some kinds.MinusSign else (if byte == 64 then Some kinds.AtSign else (if byte == 37 then Some kinds.PercentSign else None))) text tt (TellsSome-if (byte == 45) (Some kinds.MinusSign) (if byte == 64 then Some kinds.AtSign else (if byte == 37 then Some kinds.PercentSign else None)) text tt (TellsSome-if (byte == 64) (Some kinds.AtSign) (if byte == 37 then Some kinds.PercentSign else None) text tt (TellsSome-if (byte == 37) (Some kinds.PercentSign) None text tt tt)))))))

alone-tells : (kind : Option TokenKind) (bytes text : List ℕ) → TellsSome kind text → TellsSome (alone kind bytes) text
alone-tells kind [] text p = p
alone-tells kind (byte ∷ bytes) text p = tt

less_kind-tells : (bytes text : List ℕ) → TellsSome (less_kind bytes) text
less_kind-tells [] text = tt
less_kind-tells (byte ∷ []) text = TellsSome-if (byte == 61) (Some kinds.LessOrEqual) (if byte == 62 then Some kinds.Unequal else None) text tt (TellsSome-if (byte == 62) (Some kinds.Unequal) None text tt tt)
less_kind-tells (byte ∷ other ∷ bytes) text = tt

greater_kind-tells : (bytes text : List ℕ) → TellsSome (greater_kind bytes) text
greater_kind-tells [] text = tt
greater_kind-tells (byte ∷ []) text = TellsSome-if (byte == 61) (Some kinds.GreaterOrEqual) None text tt tt
greater_kind-tells (byte ∷ other ∷ bytes) text = tt

-- the kind of a text tells so much of it
pub token_kind-tells : (text : List ℕ) → TellsSome (token_kind text) text
unfolding token_kind
token_kind-tells [] = tt
token_kind-tells (byte ∷ bytes) =
    let symbol = alone-tells (single_kind byte) bytes (byte ∷ bytes) (single_kind-tells byte (byte ∷ bytes)) in
    let greater = TellsSome-if (byte == 62) (greater_kind bytes) (alone (single_kind byte) bytes) (byte ∷ bytes) (greater_kind-tells bytes (byte ∷ bytes)) symbol in
    let less = TellsSome-if (byte == 60) (less_kind bytes) (if byte == 62 then greater_kind bytes else alone (single_kind byte) bytes) (byte ∷ bytes) (less_kind-tells bytes (byte ∷ bytes)) greater in
    let other : TellsSome (if byte == 39 then (if is_quoted_rest false bytes then Some kinds.Quoted else None) else (if byte == 60 then less_kind bytes else (if byte == 62 then greater_kind bytes else alone (single_kind byte) bytes))) (byte ∷ bytes) =
    elim (byte == 39) as (λ b. (byte == 39) ≡ b → TellsSome (if b then (if is_quoted_rest false bytes then Some kinds.Quoted else None) else (if byte == 60 then less_kind bytes else (if byte == 62 then greater_kind bytes else alone (single_kind byte) bytes))) (byte ∷ bytes))
    [ true ↦ λ e. TellsSome-if (is_quoted_rest false bytes) (Some kinds.Quoted) None (byte ∷ bytes) (eqb-true byte 39 e) tt | false ↦ λ e. less ] refl in
    let digits = TellsSome-if (is_ascii_digit byte) (if list_all is_ascii_digit bytes then Some kinds.Whole else if is_fraction bytes then Some kinds.Decimal else None) _ (byte ∷ bytes)
    (TellsSome-if (list_all is_ascii_digit bytes) (Some kinds.Whole) (if is_fraction bytes then Some kinds.Decimal else None) (byte ∷ bytes) tt (TellsSome-if (is_fraction bytes) (Some kinds.Decimal) None (byte ∷ bytes) tt tt)) other in
    TellsSome-test (is_ascii_alphabetic byte) (if list_all is_word_byte bytes then Some (word_kind (byte ∷ bytes)) else None) _ (byte ∷ bytes)
    (λ letter. TellsSome-test (list_all is_word_byte bytes) (Some (word_kind (byte ∷ bytes))) None (byte ∷ bytes)
    (λ others. word_kind-tells (byte ∷ bytes) (and_from (is_ascii_alphabetic byte) (list_all is_word_byte bytes) letter others)) tt) digits

pub tells : (text : List ℕ) (kind : TokenKind) → token_kind text ≡ Some kind → Tells kind text
tells text kind e = subst (λ k. TellsSome k text) e (token_kind-tells text)

-- a byte past ASCII ends no token
alphabetic-high : (byte : ℕ) → 128 ≤ byte → is_ascii_alphabetic byte ≡ false
alphabetic-high byte h = grind (arith, nat_tests)

digit-high : (byte : ℕ) → 128 ≤ byte → is_ascii_digit byte ≡ false
digit-high byte h = grind (arith, nat_tests)

word_byte-high : (byte : ℕ) → 128 ≤ byte → is_word_byte byte ≡ false
word_byte-high byte h = grind (arith, nat_tests)

other-high : (byte n : ℕ) → 128 ≤ byte → n < 128 → (byte == n) ≡ false
other-high byte n h k = grind (arith, nat_tests)

single_kind-high : (byte : ℕ) → 128 ≤ byte → single_kind byte ≡ None
single_kind-high byte h = rw (other-high byte 40 h (omega arith), other-high byte 41 h (omega arith), other-high byte 44 h (omega arith), other-high byte 61 h (omega arith), other-high byte 43 h (omega arith), other-high byte 45 h (omega arith), other-high byte 64 h (omega arith), other-high byte 37 h (omega arith)) refl

after_start-high : (byte : ℕ) → 128 ≤ byte → after_start byte ≡ states.Dead
after_start-high byte h = rw (alphabetic-high byte h, digit-high byte h, other-high byte 39 h (omega arith), other-high byte 60 h (omega arith), other-high byte 62 h (omega arith)) (ap symbol_state (single_kind-high byte h))

after-high : (state : State) (byte : ℕ) → 128 ≤ byte → accepts (after state byte) ≡ false
after-high states.Start byte h = ap accepts (after_start-high byte h)
after-high states.Word byte h = rw (word_byte-high byte h) refl
after-high states.Whole byte h = rw (digit-high byte h, other-high byte 46 h (omega arith)) refl
after-high states.Point byte h = rw (digit-high byte h) refl
after-high states.Decimal byte h = rw (digit-high byte h) refl
after-high states.Inside byte h = rw (other-high byte 39 h (omega arith)) refl
after-high states.Behind byte h = rw (other-high byte 39 h (omega arith)) refl
after-high states.Less byte h = rw (other-high byte 61 h (omega arith), other-high byte 62 h (omega arith)) refl
after-high states.Greater byte h = rw (other-high byte 61 h (omega arith)) refl
after-high (states.Symbol kind) byte h = refl
after-high states.Dead byte h = refl

no_token : {P : Type 0} (text : List ℕ) (kind : TokenKind) → token_kind text ≡ Some kind → accepts (run states.Start text) ≡ false → P
no_token text kind e none = let c : None ≡ Some kind = sym (no_kind text none) ∙ e in absurd cc

-- a token begins with an ASCII byte
pub first_is_ascii : (text : List ℕ) (kind : TokenKind) → token_kind text ≡ Some kind → (0 < length text) × (get_or text 0 0 < 128)
first_is_ascii [] kind e = no_token [] kind e refl
first_is_ascii (byte ∷ bytes) kind e = (
  omega arith,
  ⊎_elim (λ low. low) (λ high. no_token (byte ∷ bytes) kind e (ap accepts (ap (λ s. run s bytes) (after_start-high byte high) ∙ run-dead bytes))) (cases_lt byte 128),
)

-- and ends with one
pub last_is_ascii : (text : List ℕ) (kind : TokenKind) → token_kind text ≡ Some kind → get_or text (length text - 1) 0 < 128
last_is_ascii text kind e =
    let some = (first_is_ascii text kind e).0 in
    let last : length text - 1 + 1 ≡ length text = omega arith in
    ⊎_elim (λ low. low)
    (λ high. no_token text kind e
    (ap accepts (ap (run states.Start) (sym (take-length text) ∙ ap (λ n. take n text) (sym last)) ∙ run-next states.Start text (length text - 1) (omega arith))
    ∙ after-high (run states.Start (take (length text - 1) text)) (get_or text (length text - 1) 0) high))
    (cases_lt (get_or text (length text - 1) 0) 128)

module _ (line : List ℕ) (token : Token) (is_token : IsTokenOf line token) where
  text_length : length (token_text line token) ≡ token.length
  text_length = length-take-le token.length (drop token.first line) (omega (arith, length-drop token.first line, is_token.inside))

  has_bytes : 0 < token.length
  has_bytes = omega (arith, text_length, (first_is_ascii (token_text line token) token.kind is_token.kind).0)

  -- the line may be cut where the token begins
  pub start_boundary : IsCharBoundary line token.first
  start_boundary =
      let some = has_bytes in
      let ascii = (first_is_ascii (token_text line token) token.kind is_token.kind).1 in
      let same : get_or (token_text line token) 0 0 ≡ get_or line token.first 0 = get_or-take token.length (drop token.first line) 0 0 some ∙ get_or-drop token.first line 0 0 ∙ ap (λ n. get_or line n 0) (add-zero token.first) in
      IsCharBoundary-before_ascii line token.first (omega (arith, is_token.inside)) (subst (λ b. b < 128) same ascii)

  -- and where it ends
  pub end_boundary : IsUtf8 line → IsCharBoundary line (token.first + token.length)
  end_boundary utf8 =
      let some = has_bytes in
      let ascii = last_is_ascii (token_text line token) token.kind is_token.kind in
      let at : length (token_text line token) - 1 ≡ token.length - 1 = ap (λ n. n - 1) text_length in
      let same : get_or (token_text line token) (length (token_text line token) - 1) 0 ≡ get_or line (token.first + (token.length - 1)) 0 =
      ap (λ n. get_or (token_text line token) n 0) at ∙ get_or-take token.length (drop token.first line) (token.length - 1) 0 (omega arith) ∙ get_or-drop token.first line (token.length - 1) 0 in
      let next : token.first + (token.length - 1) + 1 ≡ token.first + token.length = omega arith in
      subst (IsCharBoundary line) next
      (IsCharBoundary-after_ascii line (token.first + (token.length - 1)) utf8 (omega (arith, is_token.inside)) (subst (λ b. b < 128) same ascii))

  -- a name is a word, not too long and not reserved
  pub name_tells : token.kind ≡ kinds.Name → IsNameText (token_text line token)
  name_tells e = subst (λ k. Tells k (token_text line token)) e (tells (token_text line token) token.kind is_token.kind)

  pub name_fits : token.kind ≡ kinds.Name → length (token_text line token) ≤ NAME_BYTES
  name_fits e = (name_tells e).short
