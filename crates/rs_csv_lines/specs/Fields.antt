-- What a field of a record says. A field that stood in quotes was read with a quote before it, so that an empty one is
-- told from one that has nothing.
use Rattle.std.specs.Prelude.{◌≡◌, ◌⊎◌, ◌↔◌, ℕ, ◌≤◌, ◌^◌, Bool, true, ◌==◌, if◌then◌else◌, List, [], ◌∷◌, ◌++◌, codes}
use Rattle.rs_grammar.specs.Grammar as grammar
use Rattle.rs_grammar.specs.Grammar.{rules, Derives}
use Rattle.rs_grammar.specs.declared.kind.TokenKind.TheVariants as kinds
use Rattle.rs_lexer.specs.declared.token.Token.{Token}
use Rattle.rs_lexer.specs.Lexis.{kinds_of, token_text, AreTokensFrom}
use Rattle.rs_measure.specs.FixedPoint.{number_of_digits}
use Rattle.rs_methods.specs.Position.{PositionExpression, absolute, beyond, relative_of}
use Rattle.rs_methods.specs.declared.position.Sign.{Sign}
use Rattle.rs_methods.specs.declared.position.Sign.TheVariants.{Plus, Minus}
use Rattle.rs_value.specs.declared.column.ColumnType.{ColumnType}
use Rattle.rs_value.specs.declared.column.ColumnType.TheVariants as types
use Rattle.rs_value.specs.Row.{Datum, null, number, text}
use Rattle.rs_syntax.specs.declared.written.WrittenValue.TheVariants as written_values
use Rattle.rs_syntax.specs.declared.written.WrittenPosition.{WrittenPosition}
use Rattle.rs_syntax.specs.declared.written.WrittenPosition.TheVariants as written_positions
use Rattle.rs_syntax.specs.Written.{lexemes_of, position_lexemes, value_lexemes, signed, SaysPosition}
use Rattle.rs_csv_lines.specs.declared.plan.Measures.{Measures}
use Rattle.rs_csv_lines.specs.declared.plan.Scale.{Scale}
use Rattle.rs_csv_lines.specs.declared.plan.Scale.TheVariants as scales
use Rattle.rs_csv_lines.specs.Numbers.{WritesMeasure, WritesUnsigned, WritesWhole}

-- the quote of a record
abbrev pub QUOTE : ℕ
QUOTE = 34

-- the bytes of a field, without the quote before them
abbrev pub content : List ℕ → List ℕ
content [] = []
content (byte ∷ bytes) = if byte == QUOTE then bytes else byte ∷ bytes

-- the text of a field, and whether the field has nothing, not even quotes
abbrev pub HasText : List ℕ → Bool → List ℕ → Type 0
HasText said is_empty field = (said ≡ content field) × ((is_empty ≡ true) ↔ (field ≡ []))

-- The text is one token, which is this name.
pub record SaysName (text name : List ℕ) : Type 0 where
  pub token : Token
  pub cut : AreTokensFrom text 0 (token ∷ [])
  pub kind : token.kind ≡ kinds.Name
  pub is : name ≡ token_text text token

-- The text, cut into tokens, is a position of the grammar, written so, and says this one.
pub record SpellsPosition (text : List ℕ) (written : WrittenPosition) (position : PositionExpression) : Type 0 where
  pub tokens : List Token
  pub cut : AreTokensFrom text 0 tokens
  pub derived : Derives (rules grammar.position) (kinds_of tokens) []
  pub spelled : lexemes_of tokens ≡ position_lexemes written
  pub says : SaysPosition text written position

-- The text, cut into tokens, is a number with these digits, after a minus sign or not, of at most 10^12.
pub record SpellsNumber (text : List ℕ) (is_negative : Bool) (digits : Token) : Type 0 where
  pub tokens : List Token
  pub cut : AreTokensFrom text 0 tokens
  pub spelled : lexemes_of tokens ≡ value_lexemes (written_values.Whole is_negative digits)
  pub few : number_of_digits (token_text text digits) ≤ 10 ^ 12

-- the sign between a referent and a measure
abbrev pub sign_text : Sign → List ℕ
sign_text Plus = codes "+"
sign_text Minus = codes "-"

-- The text is a referent of this name, as the grammar reads it, a sign, and how far the position is from it: a measure as offices write it, which has no sign of its own.
pub record WritesBeside (rounds : Bool) (text name : List ℕ) (sign : Sign) (thousandths : ℕ) : Type 0 where
  pub front : List ℕ
  pub number : List ℕ
  pub cut : text ≡ front ++ sign_text sign ++ number
  pub referent : Token
  pub named : SpellsPosition front (written_positions.Referent referent) (beyond name 0)
  pub written : WritesUnsigned rounds number thousandths

-- A field says a position of the grammar, or a measure as offices write it, by itself or beyond a referent or before it.
abbrev pub TellsPosition : Measures → List ℕ → PositionExpression → Type 0
TellsPosition reading bytes position = ((written : WrittenPosition) × SpellsPosition bytes written position)
    ⊎ (((thousandths : ℕ) × WritesMeasure reading bytes thousandths × (position ≡ absolute thousandths))
    ⊎ ((name : List ℕ) × (sign : Sign) × (thousandths : ℕ) × WritesBeside reading.rounds bytes name sign thousandths × (position ≡ relative_of name sign thousandths)))

-- A field says a number of the grammar, which is not multiplied, or a number as offices write it that times the scale is a whole one.
abbrev pub TellsNumber : Scale → List ℕ → Datum → Type 0
TellsNumber scale bytes datum =
    ((is_negative : Bool) × (digits : Token) × SpellsNumber bytes is_negative digits × (datum ≡ number (signed is_negative (number_of_digits (token_text bytes digits)))) × (scale ≡ scales.One))
    ⊎ ((is_negative : Bool) × (amount : ℕ) × WritesWhole scale bytes is_negative amount × (datum ≡ number (signed is_negative amount)))

-- What a field says in a column: nothing is NULL; in a column of numbers it is a number, in one of texts its own text.
abbrev pub TellsDatum : ColumnType → Scale → List ℕ → Datum → Type 0
TellsDatum type scale [] datum = datum ≡ null
TellsDatum types.Int scale (byte ∷ bytes) datum = TellsNumber scale (content (byte ∷ bytes)) datum
TellsDatum (types.Text most) scale (byte ∷ bytes) datum = datum ≡ text (content (byte ∷ bytes))
