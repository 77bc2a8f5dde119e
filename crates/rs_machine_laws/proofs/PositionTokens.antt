-- A text that says a position is said by the tokens of each line in which it stands.
use Rattle.std.proofs.Common.{◌≡◌, ◌∙◌, ℕ, ◌+◌, true, false, cond, List, [], ◌∷◌, ◌++◌, length, drop, refl, sym, ap, subst, inl, inr, append_assoc, length-append, arith}
use Rattle.std.specs.Prelude.{◌==◌, codes}
use Rattle.std.specs.Char.{is_ascii_digit}
use Rattle.rs_measure.specs.FixedPoint.{SaysFixedPoint}
use Rattle.rs_measure.specs.Measure.{SaysMeasure}
use Rattle.rs_measure.specs.Part.{SaysPart}
use Rattle.rs_grammar.specs.declared.kind.TokenKind.{TokenKind}
use Rattle.rs_grammar.specs.declared.kind.TokenKind.TheVariants as kinds
use Rattle.rs_grammar.specs.Words.{is_word_byte}
use Rattle.rs_lexer.specs.declared.token.Token.{Token}
use Rattle.rs_lexer.specs.Lexis.{token_text, AreTokensFrom}
use Rattle.rs_methods.specs.Position.{PositionExpression, absolute, beyond, before, interpolative}
use Rattle.rs_methods.specs.PositionText.{SaysReferent, SaysSigned, SaysPercentage, TextSaysPosition}
use Rattle.rs_syntax.specs.declared.written.WrittenPosition.TheVariants as written_positions
use Rattle.rs_syntax.specs.Written.{mark, told, has_text, lexeme_of}
use Rattle.rs_syntax.specs.Sound.{IsName}
use Rattle.rs_machine_laws.specs.TokensSay.{IsEndOrBlank, StandsAt, TokensSay, HasName}
use Rattle.rs_machine_laws.proofs.Tokens.{IsLongest, next_is, token_here, text_here, after_here, cut_here, IsNumber, whole_number, parts_number, number_ends, word_ends, name_kind, at_kind, plus_kind, minus_kind, percent_kind, at_ends, plus_ends, minus_ends, percent_ends}

-- ---- numbers

fixed_number : (most places : ℕ) (bytes : List ℕ) (number : ℕ) → SaysFixedPoint most places bytes number → (kind : TokenKind) × IsNumber bytes kind
fixed_number most places bytes number (inl says) = (kinds.Whole, whole_number bytes says.whole.digits_only says.whole.some)
fixed_number most places bytes number (inr said) =
    let says = said.2 in
    (kinds.Decimal, parts_number bytes said.0 said.1 says.cut says.whole_part.digits_only says.whole_part.some says.decimal_part.digits_only says.decimal_part.some)

-- how a number is spelled
number_piece : (token : Token) → has_text token.kind ≡ true → lexeme_of token ≡ told token.kind token
number_piece token is = ap (λ b. cond b (told token.kind token) (mark token.kind)) is

-- ---- what ends a number or a word

blank_next : (after : List ℕ) → IsEndOrBlank after → (byte : ℕ) (bytes : List ℕ) → after ≡ byte ∷ bytes → byte ≡ 32
blank_next after ends byte bytes e = subst IsEndOrBlank e ends

no_number : (byte n : ℕ) → byte ≡ n → is_ascii_digit n ≡ false → (n == 46) ≡ false → (is_ascii_digit byte ≡ false) × ((byte == 46) ≡ false)
no_number byte n e other point = (ap is_ascii_digit e ∙ other, ap (λ b. b == 46) e ∙ point)

number_before_blank : (bytes after : List ℕ) (kind : TokenKind) → IsNumber bytes kind → IsEndOrBlank after → IsLongest bytes after
number_before_blank bytes after kind number ends = number_ends bytes after kind number (λ byte more e. no_number byte 32 (blank_next after ends byte more e) refl refl)

number_before_percent : (bytes after : List ℕ) (kind : TokenKind) → IsNumber bytes kind → IsLongest bytes (37 ∷ after)
number_before_percent bytes after kind number = number_ends bytes (37 ∷ after) kind number (λ byte more e. no_number byte 37 (next_is 37 byte after more e) refl refl)

name_before_blank : (name after : List ℕ) → IsName name → IsEndOrBlank after → IsLongest name after
name_before_blank name after is ends = word_ends name after is.word (λ byte more e. ap is_word_byte (blank_next after ends byte more e))

name_before_sign : (name after : List ℕ) (sign : ℕ) → IsName name → is_word_byte sign ≡ false → IsLongest name (sign ∷ after)
name_before_sign name after sign is other = word_ends name (sign ∷ after) is.word (λ byte more e. ap is_word_byte (next_is sign byte after more e) ∙ other)

-- ---- a measure, and a percentage

absolute_said : (line : List ℕ) (place : ℕ) (bytes : List ℕ) (measure : ℕ) → SaysMeasure bytes measure → StandsAt line place bytes → TokensSay line place (place + length bytes) (absolute measure)
absolute_said line place bytes measure says stands =
    let number = fixed_number 6 3 bytes measure says in
    record {
      tokens = token_here place bytes number.0 ∷ [];
      cut = λ rest cut. cut_here line place bytes stands.after number.0 stands.is number.1.is (number_before_blank bytes stands.after number.0 number.1 stands.ends) rest cut;
      written = written_positions.Measure (token_here place bytes number.0);
      spelled = ap (λ lexeme. lexeme ∷ []) (number_piece (token_here place bytes number.0) number.1.told);
      says = (measure, subst (λ t. SaysMeasure t measure) (sym (text_here line place bytes stands.after number.0 stands.is)) says, refl);
    }

percentage_said : (line : List ℕ) (place : ℕ) (bytes : List ℕ) (part : ℕ) (digits : List ℕ) → SaysPercentage bytes part digits → StandsAt line place bytes → TokensSay line place (place + length bytes) (interpolative part)
percentage_said line place bytes part digits says stands =
    let number = fixed_number 3 7 digits part says.part_said.percent in
    let first : drop place line ≡ digits ++ 37 ∷ stands.after = stands.is ∙ ap (λ bs. bs ++ stands.after) says.cut ∙ append_assoc digits (37 ∷ []) stands.after in
    let second : drop (place + length digits) line ≡ codes "%" ++ stands.after = after_here line place digits (37 ∷ stands.after) first in
    let end : place + length digits + 1 ≡ place + length bytes = omega (arith, ap length says.cut, length-append digits (37 ∷ [])) in
    record {
      tokens = token_here place digits number.0 ∷ token_here (place + length digits) (codes "%") kinds.PercentSign ∷ [];
      cut = λ rest cut.
          cut_here line place digits (37 ∷ stands.after) number.0 first number.1.is (number_before_percent digits stands.after number.0 number.1) _
          (cut_here line (place + length digits) (codes "%") stands.after kinds.PercentSign second percent_kind (percent_ends stands.after) rest (subst (λ n. AreTokensFrom line n rest) (sym end) cut));
      written = written_positions.Percentage (token_here place digits number.0);
      spelled = ap (λ lexeme. lexeme ∷ mark kinds.PercentSign ∷ []) (number_piece (token_here place digits number.0) number.1.told);
      says = (part, subst (λ t. SaysPart t part) (sym (text_here line place digits (37 ∷ stands.after) number.0 first)) says.part_said, refl);
    }

-- ---- referents

-- `@` and a name, and what follows
record FrontSays (line : List ℕ) (place : ℕ) (name tail : List ℕ) : Type 0 where
  cut : (rest : List Token) → AreTokensFrom line (place + 1 + length name) rest
      → AreTokensFrom line place (record { kind = kinds.AtSign; first = place; length = 1 } ∷ record { kind = kinds.Name; first = place + 1; length = length name } ∷ rest)
  named : token_text line (record { kind = kinds.Name; first = place + 1; length = length name }) ≡ name
  next : drop (place + 1 + length name) line ≡ tail

front : (line : List ℕ) (place : ℕ) (name tail : List ℕ) → drop place line ≡ codes "@" ++ name ++ tail → IsName name → IsLongest name tail → FrontSays line place name tail
front line place name tail at is ends =
    let second : drop (place + 1) line ≡ name ++ tail = after_here line place (codes "@") (name ++ tail) at in
    record {
      cut = λ rest cut.
          cut_here line place (codes "@") (name ++ tail) kinds.AtSign at at_kind (at_ends (name ++ tail)) _
          (cut_here line (place + 1) name tail kinds.Name second (name_kind name is) ends rest cut);
      named = text_here line (place + 1) name tail kinds.Name second;
      next = after_here line (place + 1) name tail second;
    }

referent_said : (line : List ℕ) (place : ℕ) (bytes name : List ℕ) (measure : ℕ) → SaysReferent bytes name measure → IsName name → StandsAt line place bytes → TokensSay line place (place + length bytes) (beyond name measure)
referent_said line place bytes name measure says is stands =
    let at : drop place line ≡ codes "@" ++ name ++ stands.after = stands.is ∙ ap (λ bs. bs ++ stands.after) says.cut in
    let begins = front line place name stands.after at is (name_before_blank name stands.after is stands.ends) in
    let end : place + 1 + length name ≡ place + length bytes = omega (arith, ap length says.cut) in
    record {
      tokens = record { kind = kinds.AtSign; first = place; length = 1 } ∷ record { kind = kinds.Name; first = place + 1; length = length name } ∷ [];
      cut = λ rest cut. begins.cut rest (subst (λ n. AreTokensFrom line n rest) (sym end) cut);
      written = written_positions.Referent (record { kind = kinds.Name; first = place + 1; length = length name });
      spelled = refl;
      says = ap (beyond name) says.nothing_beyond ∙ ap (λ n. beyond n 0) (sym begins.named);
    }

-- a sign and a measure after the name
record SignSays (line : List ℕ) (place : ℕ) (bytes name number : List ℕ) (sign_kind : TokenKind) : Type 0 where
  kind : TokenKind
  cut : (rest : List Token) → AreTokensFrom line (place + length bytes) rest
      → AreTokensFrom line place (record { kind = kinds.AtSign; first = place; length = 1 } ∷ record { kind = kinds.Name; first = place + 1; length = length name }
      ∷ record { kind = sign_kind; first = place + 1 + length name; length = 1 } ∷ record { kind = kind; first = place + 1 + length name + 1; length = length number } ∷ rest)
  has_text_is : has_text kind ≡ true
  named : token_text line (record { kind = kinds.Name; first = place + 1; length = length name }) ≡ name
  measured : token_text line (record { kind = kind; first = place + 1 + length name + 1; length = length number }) ≡ number

signed : (line : List ℕ) (place : ℕ) (bytes name number : List ℕ) (measure sign : ℕ) (sign_kind : TokenKind)
    → ((after : List ℕ) → drop (place + 1 + length name) line ≡ sign ∷ after → (rest : List Token) → AreTokensFrom line (place + 1 + length name + 1) rest → AreTokensFrom line (place + 1 + length name) (record { kind = sign_kind; first = place + 1 + length name; length = 1 } ∷ rest))
    → is_word_byte sign ≡ false → SaysSigned (sign ∷ []) bytes name measure number → IsName name → StandsAt line place bytes → SignSays line place bytes name number sign_kind
signed line place bytes name number measure sign sign_kind sign_cut other says is stands =
    let cut : bytes ≡ 64 ∷ (name ++ sign ∷ number) = says.cut ∙ ap (λ bs. 64 ∷ bs) (append_assoc name (sign ∷ []) number) in
    let joined : (name ++ sign ∷ number) ++ stands.after ≡ name ++ sign ∷ (number ++ stands.after) = append_assoc name (sign ∷ number) stands.after in
    let at : drop place line ≡ codes "@" ++ (name ++ sign ∷ (number ++ stands.after)) = stands.is ∙ ap (λ bs. bs ++ stands.after) cut ∙ ap (λ bs. 64 ∷ bs) joined in
    let begins = front line place name (sign ∷ (number ++ stands.after)) at is (name_before_sign name (number ++ stands.after) sign is other) in
    let third : drop (place + 1 + length name + 1) line ≡ number ++ stands.after = after_here line (place + 1 + length name) (sign ∷ []) (number ++ stands.after) begins.next in
    let kind = fixed_number 6 3 number measure says.measure_said in
    let end : place + 1 + length name + 1 + length number ≡ place + length bytes = omega (arith, ap length cut, length-append name (sign ∷ number)) in
    record {
      kind = kind.0;
      cut = λ rest rest_cut.
          begins.cut _ (sign_cut (number ++ stands.after) begins.next _
          (cut_here line (place + 1 + length name + 1) number stands.after kind.0 third kind.1.is (number_before_blank number stands.after kind.0 kind.1 stands.ends) rest (subst (λ n. AreTokensFrom line n rest) (sym end) rest_cut)));
      has_text_is = kind.1.told;
      named = begins.named;
      measured = text_here line (place + 1 + length name + 1) number stands.after kind.0 third;
    }

beyond_said : (line : List ℕ) (place : ℕ) (bytes name number : List ℕ) (measure : ℕ) → SaysSigned (codes "+") bytes name measure number → IsName name → StandsAt line place bytes → TokensSay line place (place + length bytes) (beyond name measure)
beyond_said line place bytes name number measure says is stands =
    let parts = signed line place bytes name number measure 43 kinds.PlusSign
    (λ after at rest cut. cut_here line (place + 1 + length name) (codes "+") after kinds.PlusSign at plus_kind (plus_ends after) rest cut)
    refl says is stands in
    record {
      tokens = record { kind = kinds.AtSign; first = place; length = 1 } ∷ record { kind = kinds.Name; first = place + 1; length = length name }
          ∷ record { kind = kinds.PlusSign; first = place + 1 + length name; length = 1 } ∷ record { kind = parts.kind; first = place + 1 + length name + 1; length = length number } ∷ [];
      cut = parts.cut;
      written = written_positions.Beyond (record { kind = kinds.Name; first = place + 1; length = length name }) (record { kind = parts.kind; first = place + 1 + length name + 1; length = length number });
      spelled = ap (λ lexeme. mark kinds.AtSign ∷ told kinds.Name (record { kind = kinds.Name; first = place + 1; length = length name }) ∷ mark kinds.PlusSign ∷ lexeme ∷ [])
          (number_piece (record { kind = parts.kind; first = place + 1 + length name + 1; length = length number }) parts.has_text_is);
      says = (measure, subst (λ t. SaysMeasure t measure) (sym parts.measured) says.measure_said, ap (λ n. beyond n measure) (sym parts.named));
    }

before_said : (line : List ℕ) (place : ℕ) (bytes name number : List ℕ) (measure : ℕ) → SaysSigned (codes "-") bytes name measure number → IsName name → StandsAt line place bytes → TokensSay line place (place + length bytes) (before name measure)
before_said line place bytes name number measure says is stands =
    let parts = signed line place bytes name number measure 45 kinds.MinusSign
    (λ after at rest cut. cut_here line (place + 1 + length name) (codes "-") after kinds.MinusSign at minus_kind (minus_ends after) rest cut)
    refl says is stands in
    record {
      tokens = record { kind = kinds.AtSign; first = place; length = 1 } ∷ record { kind = kinds.Name; first = place + 1; length = length name }
          ∷ record { kind = kinds.MinusSign; first = place + 1 + length name; length = 1 } ∷ record { kind = parts.kind; first = place + 1 + length name + 1; length = length number } ∷ [];
      cut = parts.cut;
      written = written_positions.Before (record { kind = kinds.Name; first = place + 1; length = length name }) (record { kind = parts.kind; first = place + 1 + length name + 1; length = length number });
      spelled = ap (λ lexeme. mark kinds.AtSign ∷ told kinds.Name (record { kind = kinds.Name; first = place + 1; length = length name }) ∷ mark kinds.MinusSign ∷ lexeme ∷ [])
          (number_piece (record { kind = parts.kind; first = place + 1 + length name + 1; length = length number }) parts.has_text_is);
      says = (measure, subst (λ t. SaysMeasure t measure) (sym parts.measured) says.measure_said, ap (λ n. before n measure) (sym parts.named));
    }

-- what a text says, the tokens of a line say, wherever it stands
pub said : (line : List ℕ) (place : ℕ) (bytes : List ℕ) (position : PositionExpression) → TextSaysPosition bytes position → HasName position → StandsAt line place bytes → TokensSay line place (place + length bytes) position
said line place bytes (absolute measure) says is stands = absolute_said line place bytes measure says stands
said line place bytes (beyond name measure) (inl says) is stands = referent_said line place bytes name measure says is stands
said line place bytes (beyond name measure) (inr says) is stands = beyond_said line place bytes name says.0 measure says.1 is stands
said line place bytes (before name measure) says is stands = before_said line place bytes name says.0 measure says.1 is stands
said line place bytes (interpolative part) says is stands = percentage_said line place bytes part says.0 says.1 stands
