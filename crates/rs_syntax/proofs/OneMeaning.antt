-- What is written so says one thing.
use Rattle.std.proofs.Common.{◌≡◌, ℕ, List, [], ◌∷◌, Option, Some, None, refl, sym, ap, ◌∙◌}
use Rattle.rs_measure.specs.Measure.{SaysMeasure}
use Rattle.rs_measure.specs.Part.{SaysPart}
use Rattle.rs_methods.specs.Position.{PositionExpression, absolute, beyond, before, interpolative}
use Rattle.rs_value.specs.declared.column.ColumnType.{ColumnType}
use Rattle.rs_value.specs.declared.column.ColumnType.TheVariants as types
use Rattle.rs_value.specs.Row.{Datum, null, number, text, Row}
use Rattle.rs_lexer.specs.declared.token.Token.{Token}
use Rattle.rs_lexer.specs.Lexis.{token_text}
use Rattle.rs_syntax.specs.declared.written.WrittenType.{WrittenType}
use Rattle.rs_syntax.specs.declared.written.WrittenType.TheVariants as written_types
use Rattle.rs_syntax.specs.declared.written.WrittenColumn.{WrittenColumn}
use Rattle.rs_syntax.specs.declared.written.WrittenValue.{WrittenValue}
use Rattle.rs_syntax.specs.declared.written.WrittenValue.TheVariants as written_values
use Rattle.rs_syntax.specs.declared.written.WrittenPosition.{WrittenPosition}
use Rattle.rs_syntax.specs.declared.written.WrittenPosition.TheVariants as written_positions
use Rattle.rs_syntax.specs.declared.written.WrittenLocation.{WrittenLocation}
use Rattle.rs_syntax.specs.declared.written.WrittenLocation.TheVariants as written_locations
use Rattle.rs_syntax.specs.declared.written.WrittenWindow.{WrittenWindow}
use Rattle.rs_syntax.specs.declared.written.WrittenWindow.TheVariants as written_windows
use Rattle.rs_syntax.specs.declared.written.WrittenPiece.{WrittenPiece}
use Rattle.rs_syntax.specs.declared.written.WrittenOperand.{WrittenOperand}
use Rattle.rs_syntax.specs.declared.written.WrittenOperand.TheVariants as written_operands
use Rattle.rs_syntax.specs.Tree.{EventLocationTree, along, at_point, WindowTree, part_of_route, PieceTree, OperandTree, written_value, ConditionTree, compare, negated, bracketed, both, either, QueryTree, filtered, dissolved, renamed, windowed, transformed, gapped, CommandTree, define_route, define_table, define_referent, define_view, define_alignment, move_referent, insert, remove, translate, select, total, explain, open_cursor, fetch}
use Rattle.rs_syntax.specs.WrittenParts.{SaysType, SaysColumns, SaysDatum, SaysRow, SaysPosition, SaysLocation, SaysPiece, SaysPieces, summed_name}
use Rattle.rs_syntax.specs.WrittenQueries.{AtomSyntax, written_comparison, written_null, written_not_null, written_negation, written_bracket, ConjunctionSyntax, last_atom, and_then, ConditionSyntax, last_conjunction, or_else, QuerySyntax, written_name, written_where, written_dissolve, written_rename, written_pair, written_window, written_transform, written_gaps, SaysWindow, SaysOperand, SaysAtom, SaysConjunction, SaysCondition, paired, SaysQuery, SaysRemoval}
use Rattle.rs_syntax.specs.Written.{Written, written_route, written_table, written_referent, written_index, written_view, written_alignment, written_move, written_drop_route, written_drop_table, written_drop_index, written_drop_view, written_drop_alignment, written_drop_referent, written_insert, written_remove, written_translate, written_select, written_total, written_explain, written_open, written_fetch, written_close, written_save, written_reopen, view_text, Says}
use Rattle.std.specs.Prelude.{map, unwrap_or}
use Rattle.rs_methods.specs.declared.position.Method.TheVariants as methods

-- a text says one measure, and one part
pub record Readings : Type 0 where
  pub measures : (text : List ℕ) (a b : ℕ) → SaysMeasure text a → SaysMeasure text b → a ≡ b
  pub parts : (text : List ℕ) (a b : ℕ) → SaysPart text a → SaysPart text b → a ≡ b

says_type_same : (line : List ℕ) (w : WrittenType) (a b : ColumnType) → SaysType line w a → SaysType line w b → a ≡ b
says_type_same line written_types.Int types.Int types.Int p q = refl
says_type_same line written_types.Int types.Int (types.Text n) p q = absurd q
says_type_same line written_types.Int (types.Text m) b p q = absurd p
says_type_same line (written_types.Text t) types.Int b p q = absurd p
says_type_same line (written_types.Text t) (types.Text m) types.Int p q = absurd q
says_type_same line (written_types.Text t) (types.Text m) (types.Text n) p q = ap types.Text (p.0 ∙ sym q.0)

says_columns_same : (line : List ℕ) (ws : List WrittenColumn) (a b : List (List ℕ × ColumnType)) → SaysColumns line ws a → SaysColumns line ws b → a ≡ b
says_columns_same line [] [] [] p q = refl
says_columns_same line [] [] (y ∷ ys) p q = absurd q
says_columns_same line [] (x ∷ xs) b p q = absurd p
says_columns_same line (w ∷ ws) [] b p q = absurd p
says_columns_same line (w ∷ ws) (x ∷ xs) [] p q = absurd q
says_columns_same line (w ∷ ws) (x ∷ xs) (y ∷ ys) p q =
    let names : x.0 ≡ y.0 = p.0 ∙ sym q.0 in
    let kinds_same = says_type_same line w.column_type x.1 y.1 p.1 q.1 in
    let others = says_columns_same line ws xs ys p.2 q.2 in
    ap (λ n. (n, x.1) ∷ xs) names ∙ ap (λ t. (y.0, t) ∷ xs) kinds_same ∙ ap (λ zs. y ∷ zs) others

says_datum_same : (line : List ℕ) (w : WrittenValue) (a b : Datum) → SaysDatum line w a → SaysDatum line w b → a ≡ b
says_datum_same line written_values.Null null null p q = refl
says_datum_same line written_values.Null null (number n) p q = absurd q
says_datum_same line written_values.Null null (text bytes) p q = absurd q
says_datum_same line written_values.Null (number n) b p q = absurd p
says_datum_same line written_values.Null (text bytes) b p q = absurd p
says_datum_same line (written_values.Whole sign digits) null b p q = absurd p
says_datum_same line (written_values.Whole sign digits) (text bytes) b p q = absurd p
says_datum_same line (written_values.Whole sign digits) (number m) null p q = absurd q
says_datum_same line (written_values.Whole sign digits) (number m) (text bytes) p q = absurd q
says_datum_same line (written_values.Whole sign digits) (number m) (number n) p q = ap number (p.1 ∙ sym q.1)
says_datum_same line (written_values.Quoted quoted) null b p q = absurd p
says_datum_same line (written_values.Quoted quoted) (number n) b p q = absurd p
says_datum_same line (written_values.Quoted quoted) (text bytes) null p q = absurd q
says_datum_same line (written_values.Quoted quoted) (text bytes) (number n) p q = absurd q
says_datum_same line (written_values.Quoted quoted) (text bytes) (text others) p q = ap text (p ∙ sym q)

says_row_same : (line : List ℕ) (ws : List WrittenValue) (a b : Row) → SaysRow line ws a → SaysRow line ws b → a ≡ b
says_row_same line [] [] [] p q = refl
says_row_same line [] [] (y ∷ ys) p q = absurd q
says_row_same line [] (x ∷ xs) b p q = absurd p
says_row_same line (w ∷ ws) [] b p q = absurd p
says_row_same line (w ∷ ws) (x ∷ xs) [] p q = absurd q
says_row_same line (w ∷ ws) (x ∷ xs) (y ∷ ys) p q =
    ap (λ d. d ∷ xs) (says_datum_same line w x y p.0 q.0) ∙ ap (λ zs. y ∷ zs) (says_row_same line ws xs ys p.1 q.1)

says_position_same : Readings → (line : List ℕ) (w : WrittenPosition) (a b : PositionExpression) → SaysPosition line w a → SaysPosition line w b → a ≡ b
says_position_same one line (written_positions.Measure token) a b p q = p.2 ∙ ap absolute (one.measures (token_text line token) p.0 q.0 p.1 q.1) ∙ sym q.2
says_position_same one line (written_positions.Percentage token) a b p q = p.2 ∙ ap interpolative (one.parts (token_text line token) p.0 q.0 p.1 q.1) ∙ sym q.2
says_position_same one line (written_positions.Referent name) a b p q = p ∙ sym q
says_position_same one line (written_positions.Beyond name token) a b p q = p.2 ∙ ap (beyond (token_text line name)) (one.measures (token_text line token) p.0 q.0 p.1 q.1) ∙ sym q.2
says_position_same one line (written_positions.Before name token) a b p q = p.2 ∙ ap (before (token_text line name)) (one.measures (token_text line token) p.0 q.0 p.1 q.1) ∙ sym q.2

says_location_same : Readings → (line : List ℕ) (w : WrittenLocation) (a b : EventLocationTree) → SaysLocation line w a → SaysLocation line w b → a ≡ b
says_location_same one line (written_locations.Along from to) (along a b) (along c d) p q =
    ap (λ x. along x b) (says_position_same one line from a c p.0 q.0) ∙ ap (along c) (says_position_same one line to b d p.1 q.1)
says_location_same one line (written_locations.Along from to) (along a b) (at_point c) p q = absurd q
says_location_same one line (written_locations.Along from to) (at_point a) b p q = absurd p
says_location_same one line (written_locations.At w) (along a b) c p q = absurd p
says_location_same one line (written_locations.At w) (at_point a) (along b c) p q = absurd q
says_location_same one line (written_locations.At w) (at_point a) (at_point b) p q = ap at_point (says_position_same one line w a b p q)

piece_from : (x y : PieceTree) → x.from_route ≡ y.from_route → x.from ≡ y.from → x.to ≡ y.to → x.onto_route ≡ y.onto_route → x.onto ≡ y.onto → x ≡ y
piece_from x y from_route from to onto_route onto =
    ap (λ z. record { from_route = z; from = x.from; to = x.to; onto_route = x.onto_route; onto = x.onto }) from_route
    ∙ ap (λ z. record { from_route = y.from_route; from = z; to = x.to; onto_route = x.onto_route; onto = x.onto }) from
    ∙ ap (λ z. record { from_route = y.from_route; from = y.from; to = z; onto_route = x.onto_route; onto = x.onto }) to
    ∙ ap (λ z. record { from_route = y.from_route; from = y.from; to = y.to; onto_route = z; onto = x.onto }) onto_route
    ∙ ap (λ z. record { from_route = y.from_route; from = y.from; to = y.to; onto_route = y.onto_route; onto = z }) onto

says_piece_same : Readings → (line : List ℕ) (w : WrittenPiece) (a b : PieceTree) → SaysPiece line w a → SaysPiece line w b → a ≡ b
says_piece_same one line w a b p q =
    piece_from a b
    (p.from_route ∙ sym q.from_route)
    (one.measures (token_text line w.from) a.from b.from p.from q.from)
    (one.measures (token_text line w.to) a.to b.to p.to q.to)
    (p.onto_route ∙ sym q.onto_route)
    (one.measures (token_text line w.onto) a.onto b.onto p.onto q.onto)

says_pieces_same : Readings → (line : List ℕ) (ws : List WrittenPiece) (a b : List PieceTree) → SaysPieces line ws a → SaysPieces line ws b → a ≡ b
says_pieces_same one line [] [] [] p q = refl
says_pieces_same one line [] [] (y ∷ ys) p q = absurd q
says_pieces_same one line [] (x ∷ xs) b p q = absurd p
says_pieces_same one line (w ∷ ws) [] b p q = absurd p
says_pieces_same one line (w ∷ ws) (x ∷ xs) [] p q = absurd q
says_pieces_same one line (w ∷ ws) (x ∷ xs) (y ∷ ys) p q =
    ap (λ piece. piece ∷ xs) (says_piece_same one line w x y p.0 q.0) ∙ ap (λ zs. y ∷ zs) (says_pieces_same one line ws xs ys p.1 q.1)

-- Queries and conditions.
says_window_same : Readings → (line : List ℕ) (w : WrittenWindow) (a b : WindowTree) → SaysWindow line w a → SaysWindow line w b → a ≡ b
says_window_same one line (written_windows.Whole route) a b p q = p ∙ sym q
says_window_same one line (written_windows.Part route from to) a b p q =
    p.4
    ∙ ap (λ x. part_of_route (token_text line route) x p.1) (says_position_same one line from p.0 q.0 p.2 q.2)
    ∙ ap (part_of_route (token_text line route) q.0) (says_position_same one line to p.1 q.1 p.3 q.3)
    ∙ sym q.4

says_operand_same : (line : List ℕ) (w : WrittenOperand) (a b : OperandTree) → SaysOperand line w a → SaysOperand line w b → a ≡ b
says_operand_same line (written_operands.Column name) a b p q = p ∙ sym q
says_operand_same line (written_operands.Whole sign digits) a b p q = p.2 ∙ ap written_value (says_datum_same line (written_values.Whole sign digits) p.0 q.0 p.1 q.1) ∙ sym q.2
says_operand_same line (written_operands.Quoted quoted) a b p q = p.2 ∙ ap written_value (says_datum_same line (written_values.Quoted quoted) p.0 q.0 p.1 q.1) ∙ sym q.2

mutual
  says_atom_same : (line : List ℕ) (w : AtomSyntax) (a b : ConditionTree) → SaysAtom line w a → SaysAtom line w b → a ≡ b
  says_atom_same line (written_comparison name comparison operand) a b p q =
      p.2 ∙ ap (compare (token_text line name) comparison) (says_operand_same line operand p.0 q.0 p.1 q.1) ∙ sym q.2
  says_atom_same line (written_null name) a b p q = p ∙ sym q
  says_atom_same line (written_not_null name) a b p q = p ∙ sym q
  says_atom_same line (written_negation w) a b p q = p.2 ∙ ap negated (says_condition_same line w p.0 q.0 p.1 q.1) ∙ sym q.2
  says_atom_same line (written_bracket w) a b p q = p.2 ∙ ap bracketed (says_condition_same line w p.0 q.0 p.1 q.1) ∙ sym q.2

  says_conjunction_same : (line : List ℕ) (w : ConjunctionSyntax) (a b : ConditionTree) → SaysConjunction line w a → SaysConjunction line w b → a ≡ b
  says_conjunction_same line (last_atom w) a b p q = says_atom_same line w a b p q
  says_conjunction_same line (and_then w others) a b p q =
      p.4 ∙ ap (λ x. both x p.1) (says_atom_same line w p.0 q.0 p.2 q.2) ∙ ap (both q.0) (says_conjunction_same line others p.1 q.1 p.3 q.3) ∙ sym q.4

  says_condition_same : (line : List ℕ) (w : ConditionSyntax) (a b : ConditionTree) → SaysCondition line w a → SaysCondition line w b → a ≡ b
  says_condition_same line (last_conjunction w) a b p q = says_conjunction_same line w a b p q
  says_condition_same line (or_else w others) a b p q =
      p.4 ∙ ap (λ x. either x p.1) (says_conjunction_same line w p.0 q.0 p.2 q.2) ∙ ap (either q.0) (says_condition_same line others p.1 q.1 p.3 q.3) ∙ sym q.4

says_query_same : Readings → (line : List ℕ) (w : QuerySyntax) (a b : QueryTree) → SaysQuery line w a → SaysQuery line w b → a ≡ b
says_query_same one line (written_name name) a b p q = p ∙ sym q
says_query_same one line (written_where w c) a b p q =
    p.4 ∙ ap (λ x. filtered x p.1) (says_query_same one line w p.0 q.0 p.2 q.2) ∙ ap (filtered q.0) (says_condition_same line c p.1 q.1 p.3 q.3) ∙ sym q.4
says_query_same one line (written_dissolve w names) a b p q =
    p.2 ∙ ap (λ x. dissolved x (map (token_text line) names)) (says_query_same one line w p.0 q.0 p.1 q.1) ∙ sym q.2
says_query_same one line (written_rename w from to) a b p q =
    p.2 ∙ ap (λ x. renamed x (token_text line from) (token_text line to)) (says_query_same one line w p.0 q.0 p.1 q.1) ∙ sym q.2
says_query_same one line (written_pair operator v w) a b p q =
    p.4 ∙ ap (λ x. paired operator x p.1) (says_query_same one line v p.0 q.0 p.2 q.2) ∙ ap (paired operator q.0) (says_query_same one line w p.1 q.1 p.3 q.3) ∙ sym q.4
says_query_same one line (written_window w window) a b p q =
    p.4 ∙ ap (λ x. windowed x p.1) (says_query_same one line w p.0 q.0 p.2 q.2) ∙ ap (windowed q.0) (says_window_same one line window p.1 q.1 p.3 q.3) ∙ sym q.4
says_query_same one line (written_transform w alignment) a b p q =
    p.2 ∙ ap (λ x. transformed x (token_text line alignment)) (says_query_same one line w p.0 q.0 p.1 q.1) ∙ sym q.2
says_query_same one line (written_gaps w) a b p q = p.2 ∙ ap gapped (says_query_same one line w p.0 q.0 p.1 q.1) ∙ sym q.2

says_removal_same : (line : List ℕ) (w : Option ConditionSyntax) (a b : Option ConditionTree) → SaysRemoval line w a → SaysRemoval line w b → a ≡ b
says_removal_same line None a b p q = p ∙ sym q
says_removal_same line (Some w) a b p q = p.2 ∙ ap Some (says_condition_same line w p.0 q.0 p.1 q.1) ∙ sym q.2

-- a written command of these tokens says one thing
pub says_same : Readings → (line : List ℕ) (tokens : List Token) (w : Written) (a b : CommandTree) → Says line tokens w a → Says line tokens w b → a ≡ b
says_same one line tokens (written_route n s f) a b p q =
    p.4
    ∙ ap (λ from. define_route (token_text line n) from p.1) (one.measures (token_text line s) p.0 q.0 p.2 q.2)
    ∙ ap (define_route (token_text line n) q.0) (one.measures (token_text line f) p.1 q.1 p.3 q.3)
    ∙ sym q.4
says_same one line tokens (written_table k n cs) a b p q = p.2 ∙ ap (define_table k (token_text line n)) (says_columns_same line cs p.0 q.0 p.1 q.1) ∙ sym q.2
says_same one line tokens (written_referent r n w) a b p q =
    p.2 ∙ ap (define_referent (token_text line r) (token_text line n)) (says_position_same one line w p.0 q.0 p.1 q.1) ∙ sym q.2
says_same one line tokens (written_index n t c) a b p q = p ∙ sym q
says_same one line tokens (written_view n w) a b p q =
    p.2 ∙ ap (λ query. define_view (token_text line n) query (view_text line tokens)) (says_query_same one line w p.0 q.0 p.1 q.1) ∙ sym q.2
says_same one line tokens (written_alignment n ws) a b p q = p.2 ∙ ap (define_alignment (token_text line n)) (says_pieces_same one line ws p.0 q.0 p.1 q.1) ∙ sym q.2
says_same one line tokens (written_move r n w) a b p q =
    p.2 ∙ ap (move_referent (token_text line r) (token_text line n)) (says_position_same one line w p.0 q.0 p.1 q.1) ∙ sym q.2
says_same one line tokens (written_drop_route n) a b p q = p ∙ sym q
says_same one line tokens (written_drop_table n) a b p q = p ∙ sym q
says_same one line tokens (written_drop_index n) a b p q = p ∙ sym q
says_same one line tokens (written_drop_view n) a b p q = p ∙ sym q
says_same one line tokens (written_drop_alignment n) a b p q = p ∙ sym q
says_same one line tokens (written_drop_referent r n) a b p q = p ∙ sym q
says_same one line tokens (written_insert t r w vs) a b p q =
    p.4
    ∙ ap (λ place. insert (token_text line t) (token_text line r) place p.1) (says_location_same one line w p.0 q.0 p.2 q.2)
    ∙ ap (insert (token_text line t) (token_text line r) q.0) (says_row_same line vs p.1 q.1 p.3 q.3)
    ∙ sym q.4
says_same one line tokens (written_remove t w c) a b p q =
    p.4
    ∙ ap (λ window. remove (token_text line t) window p.1) (says_window_same one line w p.0 q.0 p.2 q.2)
    ∙ ap (remove (token_text line t) q.0) (says_removal_same line c p.1 q.1 p.3 q.3)
    ∙ sym q.4
says_same one line tokens (written_translate r w m) a b p q =
    p.2 ∙ ap (λ position. translate (token_text line r) position m) (says_position_same one line w p.0 q.0 p.1 q.1) ∙ sym q.2
says_same one line tokens (written_select w m) a b p q =
    p.2 ∙ ap (λ query. select query (unwrap_or m methods.Absolute)) (says_query_same one line w p.0 q.0 p.1 q.1) ∙ sym q.2
says_same one line tokens (written_total w by summed) a b p q =
    p.2 ∙ ap (λ query. total query (map (token_text line) by) (summed_name line summed)) (says_query_same one line w p.0 q.0 p.1 q.1) ∙ sym q.2
says_same one line tokens (written_explain w) a b p q = p.2 ∙ ap explain (says_query_same one line w p.0 q.0 p.1 q.1) ∙ sym q.2
says_same one line tokens (written_open n w m) a b p q =
    p.2 ∙ ap (λ query. open_cursor (token_text line n) query (unwrap_or m methods.Absolute)) (says_query_same one line w p.0 q.0 p.1 q.1) ∙ sym q.2
says_same one line tokens (written_fetch n w) a b p q = p.2 ∙ ap (fetch (token_text line n)) (p.1.0 ∙ sym q.1.0) ∙ sym q.2
says_same one line tokens (written_close n) a b p q = p ∙ sym q
says_same one line tokens written_save a b p q = p ∙ sym q
says_same one line tokens written_reopen a b p q = p ∙ sym q
