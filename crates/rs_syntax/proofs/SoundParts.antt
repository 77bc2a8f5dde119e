-- What a line says is sound: the parts of a command but queries.
use Rattle.std.proofs.Common.{◌≡◌, ℕ, zero, suc, ◌≤◌, ◌^◌, Bool, true, false, List, [], ◌∷◌, length, refl, sym, ap, ◌∙◌, subst, arith, pos, neg_ℤ}
use Rattle.std.specs.Prelude.{nat_abs, IsTrue}
use Rattle.std.specs.Char.{is_ascii_alphabetic}
use Rattle.std.specs.List.{list_all, AllByRecursion}
use Rattle.std.proofs.lemmas.Bool.{false≢true, and_parts}
use Rattle.rs_methods.specs.PositionText.{IsWord}
use Rattle.rs_measure.specs.FixedPoint.{number_of_digits}
use Rattle.rs_measure.specs.Measure.{SaysMeasure}
use Rattle.rs_measure.proofs.FixedPoint.{said_in_range}
use Rattle.rs_value.specs.declared.column.ColumnType.{ColumnType}
use Rattle.rs_value.specs.declared.column.ColumnType.TheVariants as types
use Rattle.rs_value.specs.Row.{Datum, null, number, text, Row}
use Rattle.rs_grammar.specs.declared.kind.TokenKind.TheVariants as kinds
use Rattle.rs_lexer.specs.declared.token.Token.{Token}
use Rattle.rs_syntax.specs.declared.written.WrittenType.{WrittenType}
use Rattle.rs_syntax.specs.declared.written.WrittenType.TheVariants as written_types
use Rattle.rs_syntax.specs.declared.written.WrittenColumn.{WrittenColumn}
use Rattle.rs_syntax.specs.declared.written.WrittenValue.{WrittenValue}
use Rattle.rs_syntax.specs.declared.written.WrittenValue.TheVariants as written_values
use Rattle.rs_grammar.specs.Words.{is_word_byte}
use Rattle.rs_lexer.specs.Lexis.{token_text, IsTokenOf}
use Rattle.rs_methods.specs.Position.{PositionExpression}
use Rattle.rs_syntax.specs.declared.written.WrittenPosition.{WrittenPosition}
use Rattle.rs_syntax.specs.declared.written.WrittenPosition.TheVariants as written_positions
use Rattle.rs_syntax.specs.declared.written.WrittenLocation.{WrittenLocation}
use Rattle.rs_syntax.specs.declared.written.WrittenLocation.TheVariants as written_locations
use Rattle.rs_syntax.specs.declared.written.WrittenPiece.{WrittenPiece}
use Rattle.rs_syntax.specs.Tree.{EventLocationTree, along, at_point, PieceTree}
use Rattle.rs_syntax.specs.WrittenParts.{Lexeme, mark, column_lexemes, position_lexemes, span_lexemes, location_lexemes, value_lexemes, piece_lexemes, further_lexemes, list_lexemes, signed, SaysType, SaysColumns, SaysDatum, SaysRow, SaysPosition, SaysLocation, SaysPiece, SaysPieces, AreToldOf}
use Rattle.rs_value.specs.Values.{is_text, IsValue, AreValues}
use Rattle.rs_syntax.specs.Sound.{IsName, IsColumnType, AreColumns, IsMeasure, IsPosition, IsEventLocation, IsPiece}
use Rattle.rs_lexer.proofs.TokenLaws.{is_word, IsNameText, name_tells}
use Rattle.rs_syntax.proofs.ToldLaws.{AreToldOf-append}
use Rattle.rs_syntax.proofs.CleanTexts.{quoted_is_text}

word_of : (bytes : List ℕ) → is_word bytes ≡ true → IsWord bytes
word_of [] is = absurd (false≢true is)
word_of (byte ∷ bytes) is = and_parts (is_ascii_alphabetic byte) (list_all is_word_byte bytes) is

name_of : (bytes : List ℕ) → IsNameText bytes → IsName bytes
name_of bytes is = record { word = word_of bytes is.word; short = is.short; not_reserved = is.free }

pub name_sound : (line : List ℕ) (token : Token) (name : List ℕ) → IsTokenOf line token × (token.kind ≡ kinds.Name) → name ≡ token_text line token → IsName name
name_sound line token name is same = subst IsName (sym same) (name_of (token_text line token) (name_tells line token is.0 is.1))

type_sound : (line : List ℕ) (w : WrittenType) (t : ColumnType) → SaysType line w t → IsColumnType t
type_sound line written_types.Int types.Int says = tt
type_sound line written_types.Int (types.Text n) says = absurd says
type_sound line (written_types.Text token) types.Int says = absurd says
type_sound line (written_types.Text token) (types.Text n) says = (says.1, says.2)

-- the tokens of each item
abbrev pub EachTold : {A : Type 0} → List ℕ → (A → List Lexeme) → List A → Type 0
EachTold line lexemes [] = Unit {0}
EachTold line lexemes (item ∷ items) = AreToldOf line (lexemes item) × EachTold line lexemes items

each_further : {A : Type 0} (line : List ℕ) (lexemes : A → List Lexeme) (items : List A) → AreToldOf line (further_lexemes kinds.Comma lexemes items) → EachTold line lexemes items
each_further line lexemes [] all = tt
each_further line lexemes (item ∷ items) all =
    let p = AreToldOf-append line (lexemes item) (further_lexemes kinds.Comma lexemes items) all.1 in (p.0, each_further line lexemes items p.1)

pub each_told : {A : Type 0} (line : List ℕ) (lexemes : A → List Lexeme) (items : List A) → AreToldOf line (list_lexemes kinds.Comma lexemes items) → EachTold line lexemes items
each_told line lexemes [] all = tt
each_told line lexemes (item ∷ items) all =
    let p = AreToldOf-append line (lexemes item) (further_lexemes kinds.Comma lexemes items) all in (p.0, each_further line lexemes items p.1)

pub columns_sound : (line : List ℕ) (ws : List WrittenColumn) (columns : List (List ℕ × ColumnType)) → EachTold line column_lexemes ws → SaysColumns line ws columns → AreColumns columns
columns_sound line [] [] each says = tt
columns_sound line [] (column ∷ columns) each says = absurd says
columns_sound line (w ∷ ws) [] each says = tt
columns_sound line (w ∷ ws) (column ∷ columns) each says =
    (name_sound line w.name column.0 each.0.0 says.0, type_sound line w.column_type column.1 says.1, columns_sound line ws columns each.1 says.2)

pub columns_length : (line : List ℕ) (ws : List WrittenColumn) (columns : List (List ℕ × ColumnType)) → SaysColumns line ws columns → length columns ≡ length ws
columns_length line [] [] says = refl
columns_length line [] (column ∷ columns) says = absurd says
columns_length line (w ∷ ws) [] says = absurd says
columns_length line (w ∷ ws) (column ∷ columns) says = ap suc (columns_length line ws columns says.2)

nat_abs-neg : (n : ℕ) → nat_abs (neg_ℤ (pos n)) ≡ n
nat_abs-neg zero = refl
nat_abs-neg (suc n) = refl

nat_abs-signed : (is_negative : Bool) (n : ℕ) → nat_abs (signed is_negative n) ≡ n
nat_abs-signed true n = nat_abs-neg n
nat_abs-signed false n = refl

pub datum_sound : (line : List ℕ) (w : WrittenValue) (datum : Datum) → IsTrue (is_text line) → AreToldOf line (value_lexemes w) → SaysDatum line w datum → IsValue datum
datum_sound line w null clean told says = tt
datum_sound line written_values.Null (text bytes) clean told says = absurd says
datum_sound line (written_values.Quoted quoted) (text bytes) clean told says = subst (λ bs. IsTrue (is_text bs)) (sym says) (quoted_is_text line quoted told.0.0 clean)
datum_sound line (written_values.Whole is_negative digits) (text bytes) clean told says = absurd says
datum_sound line written_values.Null (number n) clean told says = absurd says
datum_sound line (written_values.Quoted quoted) (number n) clean told says = absurd says
datum_sound line (written_values.Whole is_negative digits) (number n) clean told says =
    subst (λ m. m ≤ 10 ^ 12) (sym (ap nat_abs says.1 ∙ nat_abs-signed is_negative (number_of_digits (token_text line digits)))) says.0

pub row_sound : (line : List ℕ) (ws : List WrittenValue) (row : Row) → IsTrue (is_text line) → EachTold line value_lexemes ws → SaysRow line ws row → AreValues row
row_sound line ws [] clean each says = tt
row_sound line [] (datum ∷ row) clean each says = absurd says
row_sound line (w ∷ ws) (datum ∷ row) clean each says = (datum_sound line w datum clean each.0 says.0, row_sound line ws row clean each.1 says.1)

pub row_length : (line : List ℕ) (ws : List WrittenValue) (row : Row) → SaysRow line ws row → length row ≡ length ws
row_length line [] [] says = refl
row_length line [] (datum ∷ row) says = absurd says
row_length line (w ∷ ws) [] says = absurd says
row_length line (w ∷ ws) (datum ∷ row) says = ap suc (row_length line ws row says.1)

pub measure_sound : (bytes : List ℕ) (measure : ℕ) → SaysMeasure bytes measure → IsMeasure measure
measure_sound bytes measure says = let below = said_in_range 6 3 bytes measure says in omega (arith, below)

piece_sound : (line : List ℕ) (w : WrittenPiece) (piece : PieceTree) → AreToldOf line (piece_lexemes w) → SaysPiece line w piece → IsPiece piece
piece_sound line w piece all says = record {
  from_route = name_sound line w.from_route piece.from_route all.0 says.from_route;
  from = measure_sound (token_text line w.from) piece.from says.from;
  to = measure_sound (token_text line w.to) piece.to says.to;
  onto_route = name_sound line w.onto_route piece.onto_route all.1.1.1.1.1.1.0 says.onto_route;
  onto = measure_sound (token_text line w.onto) piece.onto says.onto;
}

pub pieces_sound : (line : List ℕ) (ws : List WrittenPiece) (pieces : List PieceTree) → EachTold line piece_lexemes ws → SaysPieces line ws pieces → AllByRecursion IsPiece pieces
pieces_sound line ws [] each says = tt
pieces_sound line [] (piece ∷ pieces) each says = absurd says
pieces_sound line (w ∷ ws) (piece ∷ pieces) each says = (piece_sound line w piece each.0 says.0, pieces_sound line ws pieces each.1 says.1)

pub pieces_length : (line : List ℕ) (ws : List WrittenPiece) (pieces : List PieceTree) → SaysPieces line ws pieces → length pieces ≡ length ws
pieces_length line [] [] says = refl
pieces_length line [] (piece ∷ pieces) says = absurd says
pieces_length line (w ∷ ws) [] says = absurd says
pieces_length line (w ∷ ws) (piece ∷ pieces) says = ap suc (pieces_length line ws pieces says.1)

pub position_sound : (line : List ℕ) (w : WrittenPosition) (p : PositionExpression) → AreToldOf line (position_lexemes w) → SaysPosition line w p → IsPosition p
position_sound line (written_positions.Measure token) p all says = subst IsPosition (sym says.2) (measure_sound (token_text line token) says.0 says.1)
position_sound line (written_positions.Percentage token) p all says = subst IsPosition (sym says.2) says.1.at_most_all
position_sound line (written_positions.Referent name) p all says = subst IsPosition (sym says) (name_sound line name (token_text line name) all.1.0 refl, omega arith)
position_sound line (written_positions.Beyond name token) p all says =
    subst IsPosition (sym says.2) (name_sound line name (token_text line name) all.1.0 refl, measure_sound (token_text line token) says.0 says.1)
position_sound line (written_positions.Before name token) p all says =
    subst IsPosition (sym says.2) (name_sound line name (token_text line name) all.1.0 refl, measure_sound (token_text line token) says.0 says.1)

-- two positions after FROM
pub span_sound : (line : List ℕ) (from to : WrittenPosition) (p q : PositionExpression) → AreToldOf line (span_lexemes from to) → SaysPosition line from p → SaysPosition line to q → IsPosition p × IsPosition q
span_sound line from to p q all first second =
    let told = AreToldOf-append line (position_lexemes from) (mark kinds.To ∷ position_lexemes to) all in
    (position_sound line from p told.0 first, position_sound line to q told.1.1 second)

pub location_sound : (line : List ℕ) (w : WrittenLocation) (p : EventLocationTree) → AreToldOf line (location_lexemes w) → SaysLocation line w p → IsEventLocation p
location_sound line (written_locations.Along from to) (along first second) all says = span_sound line from to first second all.1 says.0 says.1
location_sound line (written_locations.Along from to) (at_point position) all says = absurd says
location_sound line (written_locations.At w) (along first second) all says = absurd says
location_sound line (written_locations.At w) (at_point position) all says = position_sound line w position all.1 says
