-- What is written says something, or it says nothing: the parts of a command but queries.
use Rattle.std.proofs.Common.{ℕ, ◌^◌, ◌<◌, ◌≤◌, Bool, List, [], ◌∷◌, refl, subst, inl, inr, arith}
use Rattle.std.specs.Prelude.{◌⊎◌}
use Rattle.std.proofs.lemmas.Bool.{cases_lt}
use Rattle.rs_measure.specs.FixedPoint.{number_of_digits}
use Rattle.rs_measure.specs.Measure.{SaysMeasure}
use Rattle.rs_measure.specs.Part.{SaysPart}
use Rattle.rs_measure.proofs.SaidOrNot.{Cases, measure_cases, part_cases}
use Rattle.rs_methods.specs.Position.{PositionExpression, absolute, beyond, before, interpolative}
use Rattle.rs_value.specs.declared.column.TheConstants.{TEXT_BYTES}
use Rattle.rs_value.specs.declared.column.ColumnType.{ColumnType}
use Rattle.rs_value.specs.declared.column.ColumnType.TheVariants as types
use Rattle.rs_value.specs.Row.{Datum, null, number, text, Row}
use Rattle.rs_grammar.specs.declared.kind.TheConstants.{FETCHED_ROWS}
use Rattle.rs_lexer.specs.declared.token.Token.{Token}
use Rattle.rs_lexer.specs.Lexis.{token_text}
use Rattle.rs_syntax.specs.declared.written.WrittenType.{WrittenType}
use Rattle.rs_syntax.specs.declared.written.WrittenType.TheVariants as written_types
use Rattle.rs_syntax.specs.declared.written.WrittenColumn.{WrittenColumn}
use Rattle.rs_syntax.specs.declared.written.WrittenValue.{WrittenValue}
use Rattle.rs_syntax.specs.declared.written.WrittenValue.TheVariants as written_values
use Rattle.rs_syntax.specs.declared.written.WrittenPosition.{WrittenPosition}
use Rattle.rs_syntax.specs.declared.written.WrittenPosition.TheVariants as written_positions
use Rattle.rs_syntax.specs.declared.written.WrittenLocation.{WrittenLocation}
use Rattle.rs_syntax.specs.declared.written.WrittenLocation.TheVariants as written_locations
use Rattle.rs_syntax.specs.declared.written.WrittenPiece.{WrittenPiece}
use Rattle.rs_syntax.specs.Tree.{EventLocationTree, along, at_point, PieceTree}
use Rattle.rs_syntax.specs.WrittenParts.{unquoted, signed, SaysType, SaysColumns, SaysRows, SaysDatum, SaysRow, SaysPosition, SaysLocation, SaysPiece, SaysPieces}

-- A position.
measure_position : (line : List ℕ) (token : Token) → Cases (SaysMeasure (token_text line token)) → Cases (SaysPosition line (written_positions.Measure token))
measure_position line token (inl said) = inl (absolute said.0, (said.0, said.1, refl))
measure_position line token (inr none) = inr (λ p says. none says.0 says.1)

part_position : (line : List ℕ) (token : Token) → Cases (SaysPart (token_text line token)) → Cases (SaysPosition line (written_positions.Percentage token))
part_position line token (inl said) = inl (interpolative said.0, (said.0, said.1, refl))
part_position line token (inr none) = inr (λ p says. none says.0 says.1)

beyond_position : (line : List ℕ) (name token : Token) → Cases (SaysMeasure (token_text line token)) → Cases (SaysPosition line (written_positions.Beyond name token))
beyond_position line name token (inl said) = inl (beyond (token_text line name) said.0, (said.0, said.1, refl))
beyond_position line name token (inr none) = inr (λ p says. none says.0 says.1)

before_position : (line : List ℕ) (name token : Token) → Cases (SaysMeasure (token_text line token)) → Cases (SaysPosition line (written_positions.Before name token))
before_position line name token (inl said) = inl (before (token_text line name) said.0, (said.0, said.1, refl))
before_position line name token (inr none) = inr (λ p says. none says.0 says.1)

pub position_cases : (line : List ℕ) (w : WrittenPosition) → Cases (SaysPosition line w)
position_cases line (written_positions.Measure token) = measure_position line token (measure_cases (token_text line token))
position_cases line (written_positions.Percentage token) = part_position line token (part_cases (token_text line token))
position_cases line (written_positions.Referent name) = inl (beyond (token_text line name) 0, refl)
position_cases line (written_positions.Beyond name token) = beyond_position line name token (measure_cases (token_text line token))
position_cases line (written_positions.Before name token) = before_position line name token (measure_cases (token_text line token))

no_place : (line : List ℕ) (from to : WrittenPosition) → ((a b : PositionExpression) → SaysPosition line from a → SaysPosition line to b → ⊥) → (place : EventLocationTree) → SaysLocation line (written_locations.Along from to) place → ⊥
no_place line from to none (along a b) says = none a b says.0 says.1
no_place line from to none (at_point a) says = says

place_of : (line : List ℕ) (from to : WrittenPosition) → Cases (SaysPosition line from) → Cases (SaysPosition line to) → Cases (SaysLocation line (written_locations.Along from to))
place_of line from to (inl a) (inl b) = inl (along a.0 b.0, (a.1, b.1))
place_of line from to (inl a) (inr none) = inr (no_place line from to (λ x y p q. none y q))
place_of line from to (inr none) b = inr (no_place line from to (λ x y p q. none x p))

no_point : (line : List ℕ) (w : WrittenPosition) → ((a : PositionExpression) → SaysPosition line w a → ⊥) → (place : EventLocationTree) → SaysLocation line (written_locations.At w) place → ⊥
no_point line w none (along a b) says = says
no_point line w none (at_point a) says = none a says

point_of : (line : List ℕ) (w : WrittenPosition) → Cases (SaysPosition line w) → Cases (SaysLocation line (written_locations.At w))
point_of line w (inl a) = inl (at_point a.0, a.1)
point_of line w (inr none) = inr (no_point line w none)

pub location_cases : (line : List ℕ) (w : WrittenLocation) → Cases (SaysLocation line w)
location_cases line (written_locations.Along from to) = place_of line from to (position_cases line from) (position_cases line to)
location_cases line (written_locations.At w) = point_of line w (position_cases line w)

-- The columns of a table.
no_type : (line : List ℕ) (token : Token) → (1 ≤ number_of_digits (token_text line token) → number_of_digits (token_text line token) ≤ TEXT_BYTES → ⊥) → (t : ColumnType) → SaysType line (written_types.Text token) t → ⊥
no_type line token none types.Int says = says
no_type line token none (types.Text most) says = none (subst (λ m. 1 ≤ m) says.0 says.1) (subst (λ m. m ≤ TEXT_BYTES) says.0 says.2)

text_type : (line : List ℕ) (token : Token) → (number_of_digits (token_text line token) < 1) ⊎ (1 ≤ number_of_digits (token_text line token)) → (TEXT_BYTES < number_of_digits (token_text line token)) ⊎ (number_of_digits (token_text line token) ≤ TEXT_BYTES)
    → Cases (SaysType line (written_types.Text token))
text_type line token (inl none) many = inr (no_type line token (λ low high. omega arith))
text_type line token (inr some) (inl many) = inr (no_type line token (λ low high. omega arith))
text_type line token (inr some) (inr few) = inl (types.Text (number_of_digits (token_text line token)), (refl, some, few))

type_cases : (line : List ℕ) (w : WrittenType) → Cases (SaysType line w)
type_cases line written_types.Int = inl (types.Int, tt)
type_cases line (written_types.Text token) = text_type line token (cases_lt (number_of_digits (token_text line token)) 1) (cases_lt TEXT_BYTES (number_of_digits (token_text line token)))

abbrev Columns : Type 0
Columns = List (List ℕ × ColumnType)

no_columns : (line : List ℕ) (w : WrittenColumn) (ws : List WrittenColumn) → ((t : ColumnType) (others : Columns) → SaysType line w.column_type t → SaysColumns line ws others → ⊥) → (columns : Columns) → SaysColumns line (w ∷ ws) columns → ⊥
no_columns line w ws none [] says = says
no_columns line w ws none (column ∷ columns) says = none column.1 columns says.1 says.2

more_columns : (line : List ℕ) (w : WrittenColumn) (ws : List WrittenColumn) → Cases (SaysType line w.column_type) → Cases (SaysColumns line ws) → Cases (SaysColumns line (w ∷ ws))
more_columns line w ws (inl t) (inl others) = inl ((token_text line w.name, t.0) ∷ others.0, (refl, t.1, others.1))
more_columns line w ws (inl t) (inr none) = inr (no_columns line w ws (λ s others p q. none others q))
more_columns line w ws (inr none) others = inr (no_columns line w ws (λ s others p q. none s p))

pub columns_cases : (line : List ℕ) (ws : List WrittenColumn) → Cases (SaysColumns line ws)
columns_cases line [] = inl ([], tt)
columns_cases line (w ∷ ws) = more_columns line w ws (type_cases line w.column_type) (columns_cases line ws)

-- How many rows are fetched.
rows_of : (digits : List ℕ) → (number_of_digits digits < 1) ⊎ (1 ≤ number_of_digits digits) → (FETCHED_ROWS < number_of_digits digits) ⊎ (number_of_digits digits ≤ FETCHED_ROWS)
    → Cases (SaysRows digits)
rows_of digits (inl none) many = inr (λ rows says. omega (arith, says.0, says.1))
rows_of digits (inr some) (inl many) = inr (λ rows says. omega (arith, says.0, says.2))
rows_of digits (inr some) (inr few) = inl (number_of_digits digits, (refl, some, few))

pub rows_cases : (digits : List ℕ) → Cases (SaysRows digits)
rows_cases digits = rows_of digits (cases_lt (number_of_digits digits) 1) (cases_lt FETCHED_ROWS (number_of_digits digits))

-- The values of a row.
no_number : (line : List ℕ) (is_negative : Bool) (digits : Token) → 10 ^ 12 < number_of_digits (token_text line digits) → (datum : Datum) → SaysDatum line (written_values.Whole is_negative digits) datum → ⊥
no_number line is_negative digits above null says = says
no_number line is_negative digits above (number n) says = omega (arith, says.0)
no_number line is_negative digits above (text bytes) says = says

whole_datum : (line : List ℕ) (is_negative : Bool) (digits : Token) → (10 ^ 12 < number_of_digits (token_text line digits)) ⊎ (number_of_digits (token_text line digits) ≤ 10 ^ 12) → Cases (SaysDatum line (written_values.Whole is_negative digits))
whole_datum line is_negative digits (inl above) = inr (no_number line is_negative digits above)
whole_datum line is_negative digits (inr within) = inl (number (signed is_negative (number_of_digits (token_text line digits))), (within, refl))

pub datum_cases : (line : List ℕ) (w : WrittenValue) → Cases (SaysDatum line w)
datum_cases line written_values.Null = inl (null, tt)
datum_cases line (written_values.Whole is_negative digits) = whole_datum line is_negative digits (cases_lt (10 ^ 12) (number_of_digits (token_text line digits)))
datum_cases line (written_values.Quoted quoted) = inl (text (unquoted (token_text line quoted)), refl)

no_row : (line : List ℕ) (w : WrittenValue) (ws : List WrittenValue) → ((datum : Datum) (others : Row) → SaysDatum line w datum → SaysRow line ws others → ⊥) → (row : Row) → SaysRow line (w ∷ ws) row → ⊥
no_row line w ws none [] says = says
no_row line w ws none (datum ∷ row) says = none datum row says.0 says.1

more_row : (line : List ℕ) (w : WrittenValue) (ws : List WrittenValue) → Cases (SaysDatum line w) → Cases (SaysRow line ws) → Cases (SaysRow line (w ∷ ws))
more_row line w ws (inl datum) (inl others) = inl (datum.0 ∷ others.0, (datum.1, others.1))
more_row line w ws (inl datum) (inr none) = inr (no_row line w ws (λ d others p q. none others q))
more_row line w ws (inr none) others = inr (no_row line w ws (λ d others p q. none d p))

pub row_cases : (line : List ℕ) (ws : List WrittenValue) → Cases (SaysRow line ws)
row_cases line [] = inl ([], tt)
row_cases line (w ∷ ws) = more_row line w ws (datum_cases line w) (row_cases line ws)

-- The pieces of an alignment.
piece_of : (line : List ℕ) (w : WrittenPiece) → Cases (SaysMeasure (token_text line w.from)) → Cases (SaysMeasure (token_text line w.to)) → Cases (SaysMeasure (token_text line w.onto)) → Cases (SaysPiece line w)
piece_of line w (inl a) (inl b) (inl c) = inl (
  record { from_route = token_text line w.from_route; from = a.0; to = b.0; onto_route = token_text line w.onto_route; onto = c.0 },
  record { from_route = refl; from = a.1; to = b.1; onto_route = refl; onto = c.1 },
)
piece_of line w (inl a) (inl b) (inr none) = inr (λ piece says. none piece.onto says.onto)
piece_of line w (inl a) (inr none) c = inr (λ piece says. none piece.to says.to)
piece_of line w (inr none) b c = inr (λ piece says. none piece.from says.from)

no_pieces : (line : List ℕ) (w : WrittenPiece) (ws : List WrittenPiece) → ((piece : PieceTree) (others : List PieceTree) → SaysPiece line w piece → SaysPieces line ws others → ⊥) → (pieces : List PieceTree) → SaysPieces line (w ∷ ws) pieces → ⊥
no_pieces line w ws none [] says = says
no_pieces line w ws none (piece ∷ pieces) says = none piece pieces says.0 says.1

more_pieces : (line : List ℕ) (w : WrittenPiece) (ws : List WrittenPiece) → Cases (SaysPiece line w) → Cases (SaysPieces line ws) → Cases (SaysPieces line (w ∷ ws))
more_pieces line w ws (inl piece) (inl others) = inl (piece.0 ∷ others.0, (piece.1, others.1))
more_pieces line w ws (inl piece) (inr none) = inr (no_pieces line w ws (λ p others says said. none others said))
more_pieces line w ws (inr none) others = inr (no_pieces line w ws (λ p others says said. none p says))

pub pieces_cases : (line : List ℕ) (ws : List WrittenPiece) → Cases (SaysPieces line ws)
pieces_cases line [] = inl ([], tt)
pieces_cases line (w ∷ ws) =
    more_pieces line w ws (piece_of line w (measure_cases (token_text line w.from)) (measure_cases (token_text line w.to)) (measure_cases (token_text line w.onto))) (pieces_cases line ws)
