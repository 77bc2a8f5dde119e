-- The parts of a line as it writes them, and what they say: measures, positions, columns, values.
use Rattle.std.specs.Prelude.{◌≡◌, ℕ, ◌^◌, ◌≤◌, Bool, true, false, ◌==◌, if◌then◌else◌, ℤ, pos, neg_ℤ, List, [], ◌∷◌, ◌++◌, map, Option, Some, None}
use Rattle.rs_measure.specs.FixedPoint.{number_of_digits}
use Rattle.rs_measure.specs.Measure.{SaysMeasure}
use Rattle.rs_measure.specs.Part.{SaysPart}
use Rattle.rs_methods.specs.Position.{PositionExpression, absolute, beyond, before, interpolative}
use Rattle.rs_methods.specs.declared.position.Method.{Method}
use Rattle.rs_methods.specs.declared.position.Method.TheVariants as methods
use Rattle.rs_value.specs.declared.column.TheConstants.{TEXT_BYTES}
use Rattle.rs_value.specs.declared.column.Kind.{Kind}
use Rattle.rs_value.specs.declared.column.Kind.TheVariants as table_kinds
use Rattle.rs_value.specs.declared.column.ColumnType.{ColumnType}
use Rattle.rs_value.specs.declared.column.ColumnType.TheVariants as types
use Rattle.rs_value.specs.Row.{Datum, null, number, text, Row}
use Rattle.rs_grammar.specs.declared.kind.TokenKind.{TokenKind}
use Rattle.rs_grammar.specs.declared.kind.TokenKind.TheVariants as kinds
use Rattle.rs_grammar.specs.declared.kind.TheConstants.{FETCHED_ROWS}
use Rattle.rs_lexer.specs.declared.token.Token.{Token}
use Rattle.rs_lexer.specs.Lexis.{token_text, IsTokenOf}
use Rattle.rs_syntax.specs.declared.written.WrittenType.{WrittenType}
use Rattle.rs_syntax.specs.declared.written.WrittenType.TheVariants as written_types
use Rattle.rs_syntax.specs.declared.written.WrittenColumn.{WrittenColumn}
use Rattle.rs_syntax.specs.declared.written.WrittenValue.{WrittenValue}
use Rattle.rs_syntax.specs.declared.written.WrittenValue.TheVariants as written_values
use Rattle.rs_syntax.specs.declared.written.WrittenPosition.{WrittenPosition}
use Rattle.rs_syntax.specs.declared.written.WrittenPosition.TheVariants as written_positions
use Rattle.rs_syntax.specs.declared.written.WrittenLocation.{WrittenLocation}
use Rattle.rs_syntax.specs.declared.written.WrittenLocation.TheVariants as written_locations
use Rattle.rs_syntax.specs.declared.written.WrittenPiece.{WrittenPiece}
use Rattle.rs_syntax.specs.Tree.{EventLocationTree, along, at_point, PieceTree}

-- A token as a spelling shows it: a mark, or a token whose text counts.
pub data Lexeme : Type 0 where
  mark : TokenKind → Lexeme
  told : TokenKind → Token → Lexeme

-- the tokens whose text counts
abbrev pub has_text : TokenKind → Bool
has_text kinds.Name = true
has_text kinds.Whole = true
has_text kinds.Decimal = true
has_text kinds.Quoted = true
has_text _ = false

-- a token as a spelling shows it
abbrev pub lexeme_of : Token → Lexeme
lexeme_of token = if has_text token.kind then told token.kind token else mark token.kind

-- tokens as a spelling shows them
abbrev pub lexemes_of : List Token → List Lexeme
lexemes_of tokens = map lexeme_of tokens

abbrev pub measure_lexemes : Token → List Lexeme
measure_lexemes token = told token.kind token ∷ []

abbrev pub position_lexemes : WrittenPosition → List Lexeme
position_lexemes (written_positions.Measure measure) = measure_lexemes measure
position_lexemes (written_positions.Percentage digits) = measure_lexemes digits ++ mark kinds.PercentSign ∷ []
position_lexemes (written_positions.Referent name) = mark kinds.AtSign ∷ told kinds.Name name ∷ []
position_lexemes (written_positions.Beyond name measure) = mark kinds.AtSign ∷ told kinds.Name name ∷ mark kinds.PlusSign ∷ measure_lexemes measure
position_lexemes (written_positions.Before name measure) = mark kinds.AtSign ∷ told kinds.Name name ∷ mark kinds.MinusSign ∷ measure_lexemes measure

-- after FROM
abbrev pub span_lexemes : WrittenPosition → WrittenPosition → List Lexeme
span_lexemes from to = position_lexemes from ++ mark kinds.To ∷ position_lexemes to

abbrev pub location_lexemes : WrittenLocation → List Lexeme
location_lexemes (written_locations.Along from to) = mark kinds.From ∷ span_lexemes from to
location_lexemes (written_locations.At position) = mark kinds.At ∷ position_lexemes position

-- the word of a method
abbrev pub method_kind : Method → TokenKind
method_kind methods.Absolute = kinds.Absolute
method_kind methods.Relative = kinds.Relative
method_kind methods.Interpolative = kinds.Interpolative

abbrev pub method_lexemes : Method → List Lexeme
method_lexemes method = mark (method_kind method) ∷ []

-- the method of a query's positions, if one is named
abbrev pub wanted_lexemes : Option Method → List Lexeme
wanted_lexemes None = []
wanted_lexemes (Some method) = mark kinds.As ∷ method_lexemes method

-- the word of a table's kind
abbrev pub table_kind : Kind → TokenKind
table_kind table_kinds.Point = kinds.Point
table_kind table_kinds.Line = kinds.Line

abbrev pub type_lexemes : WrittenType → List Lexeme
type_lexemes written_types.Int = mark kinds.Int ∷ []
type_lexemes (written_types.Text most) = mark kinds.Text ∷ mark kinds.LeftParen ∷ told kinds.Whole most ∷ mark kinds.RightParen ∷ []

abbrev pub column_lexemes : WrittenColumn → List Lexeme
column_lexemes column = told kinds.Name column.name ∷ type_lexemes column.column_type

abbrev pub value_lexemes : WrittenValue → List Lexeme
value_lexemes written_values.Null = mark kinds.Null ∷ []
value_lexemes (written_values.Whole true digits) = mark kinds.MinusSign ∷ told kinds.Whole digits ∷ []
value_lexemes (written_values.Whole false digits) = told kinds.Whole digits ∷ []
value_lexemes (written_values.Quoted quoted) = told kinds.Quoted quoted ∷ []

abbrev pub name_lexemes : Token → List Lexeme
name_lexemes token = told kinds.Name token ∷ []

-- the column that is summed, if one is named
abbrev pub summed_lexemes : Option Token → List Lexeme
summed_lexemes None = []
summed_lexemes (Some name) = mark kinds.Sum ∷ name_lexemes name

abbrev pub piece_lexemes : WrittenPiece → List Lexeme
piece_lexemes piece =
    told kinds.Name piece.from_route ∷ mark kinds.From ∷ (measure_lexemes piece.from ++ mark kinds.To ∷ (measure_lexemes piece.to
    ++ mark kinds.Into ∷ told kinds.Name piece.onto_route ∷ mark kinds.At ∷ measure_lexemes piece.onto))

-- the items, with a mark before each
abbrev pub further_lexemes : {A : Type 0} → TokenKind → (A → List Lexeme) → List A → List Lexeme
further_lexemes kind lexemes [] = []
further_lexemes kind lexemes (item ∷ items) = mark kind ∷ (lexemes item ++ further_lexemes kind lexemes items)

-- the items, with a mark before each but the first
abbrev pub list_lexemes : {A : Type 0} → TokenKind → (A → List Lexeme) → List A → List Lexeme
list_lexemes kind lexemes [] = []
list_lexemes kind lexemes (item ∷ items) = lexemes item ++ further_lexemes kind lexemes items

-- The tokens that a spelling tells are tokens of the line, each of its kind.
abbrev pub IsToldOf : List ℕ → Lexeme → Type 0
IsToldOf line (mark kind) = Unit {0}
IsToldOf line (told kind token) = IsTokenOf line token × (token.kind ≡ kind)

abbrev pub AreToldOf : List ℕ → List Lexeme → Type 0
AreToldOf line [] = Unit {0}
AreToldOf line (lexeme ∷ lexemes) = IsToldOf line lexeme × AreToldOf line lexemes

-- INT, or TEXT of 1 to TEXT_BYTES bytes
abbrev pub SaysType : List ℕ → WrittenType → ColumnType → Type 0
SaysType line written_types.Int types.Int = Unit {0}
SaysType line (written_types.Text most) (types.Text bytes) = (bytes ≡ number_of_digits (token_text line most)) × (1 ≤ bytes) × (bytes ≤ TEXT_BYTES)
SaysType line _ _ = ⊥

abbrev pub SaysColumns : List ℕ → List WrittenColumn → List (List ℕ × ColumnType) → Type 0
SaysColumns line [] [] = Unit {0}
SaysColumns line (written ∷ more) (column ∷ columns) =
    (column.0 ≡ token_text line written.name) × SaysType line written.column_type column.1 × SaysColumns line more columns
SaysColumns line _ _ = ⊥

-- how many rows are fetched: one at least
abbrev pub SaysRows : List ℕ → ℕ → Type 0
SaysRows digits rows = (rows ≡ number_of_digits digits) × (1 ≤ rows) × (rows ≤ FETCHED_ROWS)

-- the text after an opening quote, up to the closing one, each doubled quote once
abbrev pub unquoted_rest : (behind_quote : Bool) → List ℕ → List ℕ
unquoted_rest behind_quote [] = []
unquoted_rest true (byte ∷ bytes) = byte ∷ unquoted_rest false bytes
unquoted_rest false (byte ∷ bytes) = if byte == 39 then unquoted_rest true bytes else byte ∷ unquoted_rest false bytes

-- a quoted text without its quotes
abbrev pub unquoted : List ℕ → List ℕ
unquoted [] = []
unquoted (quote ∷ bytes) = unquoted_rest false bytes

-- the number that the digits say after their sign
abbrev pub signed : Bool → ℕ → ℤ
signed is_negative size = if is_negative then neg_ℤ (pos size) else pos size

abbrev pub SaysDatum : List ℕ → WrittenValue → Datum → Type 0
SaysDatum line written_values.Null null = Unit {0}
SaysDatum line (written_values.Whole is_negative digits) (number n) =
    let size = number_of_digits (token_text line digits) in (size ≤ 10 ^ 12) × (n ≡ signed is_negative size)
SaysDatum line (written_values.Quoted quoted) (text bytes) = bytes ≡ unquoted (token_text line quoted)
SaysDatum line _ _ = ⊥

abbrev pub SaysRow : List ℕ → List WrittenValue → Row → Type 0
SaysRow line [] [] = Unit {0}
SaysRow line (written ∷ more) (datum ∷ row) = SaysDatum line written datum × SaysRow line more row
SaysRow line _ _ = ⊥

-- What a written position says: a referent alone is the place where it stands.
abbrev pub SaysPosition : List ℕ → WrittenPosition → PositionExpression → Type 0
SaysPosition line (written_positions.Measure token) position =
    (measure : ℕ) × SaysMeasure (token_text line token) measure × (position ≡ absolute measure)
SaysPosition line (written_positions.Percentage token) position =
    (part : ℕ) × SaysPart (token_text line token) part × (position ≡ interpolative part)
SaysPosition line (written_positions.Referent name) position = position ≡ beyond (token_text line name) 0
SaysPosition line (written_positions.Beyond name token) position =
    (measure : ℕ) × SaysMeasure (token_text line token) measure × (position ≡ beyond (token_text line name) measure)
SaysPosition line (written_positions.Before name token) position =
    (measure : ℕ) × SaysMeasure (token_text line token) measure × (position ≡ before (token_text line name) measure)

abbrev pub SaysLocation : List ℕ → WrittenLocation → EventLocationTree → Type 0
SaysLocation line (written_locations.Along from to) (along first second) = SaysPosition line from first × SaysPosition line to second
SaysLocation line (written_locations.At written) (at_point position) = SaysPosition line written position
SaysLocation line _ _ = ⊥

pub record SaysPiece (line : List ℕ) (written : WrittenPiece) (piece : PieceTree) : Type 0 where
  pub from_route : piece.from_route ≡ token_text line written.from_route
  pub from : SaysMeasure (token_text line written.from) piece.from
  pub to : SaysMeasure (token_text line written.to) piece.to
  pub onto_route : piece.onto_route ≡ token_text line written.onto_route
  pub onto : SaysMeasure (token_text line written.onto) piece.onto

abbrev pub SaysPieces : List ℕ → List WrittenPiece → List PieceTree → Type 0
SaysPieces line [] [] = Unit {0}
SaysPieces line (written ∷ more) (piece ∷ pieces) = SaysPiece line written piece × SaysPieces line more pieces
SaysPieces line _ _ = ⊥

-- the name of the column that is summed, if one is named
abbrev pub summed_name : List ℕ → Option Token → Option (List ℕ)
summed_name line None = None
summed_name line (Some name) = Some (token_text line name)
