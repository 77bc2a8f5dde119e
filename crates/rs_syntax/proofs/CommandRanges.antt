-- A written command says something, or it says nothing.
use Rattle.std.proofs.Common.{ℕ, Bool, List, Option, Some, None, refl, inl, inr}
use Rattle.std.specs.Prelude.{map, unwrap_or}
use Rattle.rs_measure.specs.Measure.{SaysMeasure}
use Rattle.rs_measure.proofs.SaidOrNot.{Cases, measure_cases}
use Rattle.rs_methods.specs.declared.position.Method.{Method}
use Rattle.rs_methods.specs.declared.position.Method.TheVariants as methods
use Rattle.rs_value.specs.declared.comparison.Comparison.{Comparison}
use Rattle.rs_value.specs.declared.column.Kind.{Kind}
use Rattle.rs_lexer.specs.declared.token.Token.{Token}
use Rattle.rs_lexer.specs.Lexis.{token_text}
use Rattle.rs_syntax.specs.declared.written.WrittenColumn.{WrittenColumn}
use Rattle.rs_syntax.specs.declared.written.WrittenValue.{WrittenValue}
use Rattle.rs_syntax.specs.declared.written.WrittenValue.TheVariants as written_values
use Rattle.rs_syntax.specs.declared.written.WrittenPosition.{WrittenPosition}
use Rattle.rs_syntax.specs.declared.written.WrittenLocation.{WrittenLocation}
use Rattle.rs_syntax.specs.declared.written.WrittenWindow.{WrittenWindow}
use Rattle.rs_syntax.specs.declared.written.WrittenWindow.TheVariants as written_windows
use Rattle.rs_syntax.specs.declared.written.WrittenPiece.{WrittenPiece}
use Rattle.rs_syntax.specs.declared.written.WrittenOperand.{WrittenOperand}
use Rattle.rs_syntax.specs.declared.written.WrittenOperand.TheVariants as written_operands
use Rattle.rs_syntax.specs.declared.written.PairOperator.{PairOperator}
use Rattle.rs_syntax.specs.Tree.{whole_route, part_of_route, column_named, written_value, compare, is_null, is_not_null, negated, bracketed, both, either, named, filtered, dissolved, renamed, windowed, transformed, gapped, define_route, define_table, define_referent, define_index, define_view, define_alignment, move_referent, drop_route, drop_table, drop_index, drop_view, drop_alignment, drop_referent, insert, remove, translate, select, total, explain, open_cursor, fetch, close_cursor, save, reopen}
use Rattle.rs_syntax.specs.WrittenParts.{SaysColumns, SaysRows, SaysDatum, SaysRow, SaysPosition, SaysLocation, SaysPieces, summed_name}
use Rattle.rs_syntax.specs.WrittenQueries.{AtomSyntax, written_comparison, written_null, written_not_null, written_negation, written_bracket, ConjunctionSyntax, last_atom, and_then, ConditionSyntax, last_conjunction, or_else, QuerySyntax, written_name, written_where, written_dissolve, written_rename, written_pair, written_window, written_transform, written_gaps, SaysWindow, SaysOperand, SaysAtom, SaysConjunction, SaysCondition, paired, SaysQuery, SaysRemoval}
use Rattle.rs_syntax.specs.Written.{Written, written_route, written_table, written_referent, written_index, written_view, written_alignment, written_move, written_drop_route, written_drop_table, written_drop_index, written_drop_view, written_drop_alignment, written_drop_referent, written_insert, written_remove, written_translate, written_select, written_total, written_explain, written_open, written_fetch, written_close, written_save, written_reopen, view_text, Says}
use Rattle.rs_syntax.proofs.Ranges.{position_cases, location_cases, columns_cases, rows_cases, datum_cases, row_cases, pieces_cases}

-- Windows and conditions.
part_of : (line : List ℕ) (r : Token) (from to : WrittenPosition) → Cases (SaysPosition line from) → Cases (SaysPosition line to) → Cases (SaysWindow line (written_windows.Part r from to))
part_of line r from to (inl a) (inl b) = inl (part_of_route (token_text line r) a.0 b.0, (a.0, b.0, a.1, b.1, refl))
part_of line r from to (inl a) (inr none) = inr (λ tree says. none says.1 says.3)
part_of line r from to (inr none) b = inr (λ tree says. none says.0 says.2)

window_cases : (line : List ℕ) (w : WrittenWindow) → Cases (SaysWindow line w)
window_cases line (written_windows.Whole route) = inl (whole_route (token_text line route), refl)
window_cases line (written_windows.Part route from to) = part_of line route from to (position_cases line from) (position_cases line to)

whole_of : (line : List ℕ) (is_negative : Bool) (digits : Token) → Cases (SaysDatum line (written_values.Whole is_negative digits)) → Cases (SaysOperand line (written_operands.Whole is_negative digits))
whole_of line is_negative digits (inl said) = inl (written_value said.0, (said.0, said.1, refl))
whole_of line is_negative digits (inr none) = inr (λ tree says. none says.0 says.1)

quoted_of : (line : List ℕ) (quoted : Token) → Cases (SaysDatum line (written_values.Quoted quoted)) → Cases (SaysOperand line (written_operands.Quoted quoted))
quoted_of line quoted (inl said) = inl (written_value said.0, (said.0, said.1, refl))
quoted_of line quoted (inr none) = inr (λ tree says. none says.0 says.1)

operand_cases : (line : List ℕ) (w : WrittenOperand) → Cases (SaysOperand line w)
operand_cases line (written_operands.Column name) = inl (column_named (token_text line name), refl)
operand_cases line (written_operands.Whole is_negative digits) = whole_of line is_negative digits (datum_cases line (written_values.Whole is_negative digits))
operand_cases line (written_operands.Quoted quoted) = quoted_of line quoted (datum_cases line (written_values.Quoted quoted))

comparison_of : (line : List ℕ) (n : Token) (c : Comparison) (w : WrittenOperand) → Cases (SaysOperand line w) → Cases (SaysAtom line (written_comparison n c w))
comparison_of line n c w (inl said) = inl (compare (token_text line n) c said.0, (said.0, said.1, refl))
comparison_of line n c w (inr none) = inr (λ tree says. none says.0 says.1)

negation_of : (line : List ℕ) (w : ConditionSyntax) → Cases (SaysCondition line w) → Cases (SaysAtom line (written_negation w))
negation_of line w (inl said) = inl (negated said.0, (said.0, said.1, refl))
negation_of line w (inr none) = inr (λ tree says. none says.0 says.1)

bracket_of : (line : List ℕ) (w : ConditionSyntax) → Cases (SaysCondition line w) → Cases (SaysAtom line (written_bracket w))
bracket_of line w (inl said) = inl (bracketed said.0, (said.0, said.1, refl))
bracket_of line w (inr none) = inr (λ tree says. none says.0 says.1)

and_of : (line : List ℕ) (v : AtomSyntax) (w : ConjunctionSyntax) → Cases (SaysAtom line v) → Cases (SaysConjunction line w) → Cases (SaysConjunction line (and_then v w))
and_of line v w (inl a) (inl b) = inl (both a.0 b.0, (a.0, b.0, a.1, b.1, refl))
and_of line v w (inl a) (inr none) = inr (λ tree says. none says.1 says.3)
and_of line v w (inr none) b = inr (λ tree says. none says.0 says.2)

or_of : (line : List ℕ) (v : ConjunctionSyntax) (w : ConditionSyntax) → Cases (SaysConjunction line v) → Cases (SaysCondition line w) → Cases (SaysCondition line (or_else v w))
or_of line v w (inl a) (inl b) = inl (either a.0 b.0, (a.0, b.0, a.1, b.1, refl))
or_of line v w (inl a) (inr none) = inr (λ tree says. none says.1 says.3)
or_of line v w (inr none) b = inr (λ tree says. none says.0 says.2)

mutual
  atom_cases : (line : List ℕ) (w : AtomSyntax) → Cases (SaysAtom line w)
  atom_cases line (written_comparison name comparison operand) = comparison_of line name comparison operand (operand_cases line operand)
  atom_cases line (written_null name) = inl (is_null (token_text line name), refl)
  atom_cases line (written_not_null name) = inl (is_not_null (token_text line name), refl)
  atom_cases line (written_negation w) = negation_of line w (condition_cases line w)
  atom_cases line (written_bracket w) = bracket_of line w (condition_cases line w)

  conjunction_cases : (line : List ℕ) (w : ConjunctionSyntax) → Cases (SaysConjunction line w)
  conjunction_cases line (last_atom w) = atom_cases line w
  conjunction_cases line (and_then v w) = and_of line v w (atom_cases line v) (conjunction_cases line w)

  condition_cases : (line : List ℕ) (w : ConditionSyntax) → Cases (SaysCondition line w)
  condition_cases line (last_conjunction w) = conjunction_cases line w
  condition_cases line (or_else v w) = or_of line v w (conjunction_cases line v) (condition_cases line w)

-- Queries.
where_of : (line : List ℕ) (w : QuerySyntax) (c : ConditionSyntax) → Cases (SaysQuery line w) → Cases (SaysCondition line c) → Cases (SaysQuery line (written_where w c))
where_of line w c (inl a) (inl b) = inl (filtered a.0 b.0, (a.0, b.0, a.1, b.1, refl))
where_of line w c (inl a) (inr none) = inr (λ tree says. none says.1 says.3)
where_of line w c (inr none) b = inr (λ tree says. none says.0 says.2)

dissolve_of : (line : List ℕ) (w : QuerySyntax) (names : List Token) → Cases (SaysQuery line w) → Cases (SaysQuery line (written_dissolve w names))
dissolve_of line w names (inl said) = inl (dissolved said.0 (map (token_text line) names), (said.0, said.1, refl))
dissolve_of line w names (inr none) = inr (λ tree says. none says.0 says.1)

rename_of : (line : List ℕ) (w : QuerySyntax) (from to : Token) → Cases (SaysQuery line w) → Cases (SaysQuery line (written_rename w from to))
rename_of line w from to (inl said) = inl (renamed said.0 (token_text line from) (token_text line to), (said.0, said.1, refl))
rename_of line w from to (inr none) = inr (λ tree says. none says.0 says.1)

pair_of : (line : List ℕ) (o : PairOperator) (v w : QuerySyntax) → Cases (SaysQuery line v) → Cases (SaysQuery line w) → Cases (SaysQuery line (written_pair o v w))
pair_of line o v w (inl a) (inl b) = inl (paired o a.0 b.0, (a.0, b.0, a.1, b.1, refl))
pair_of line o v w (inl a) (inr none) = inr (λ tree says. none says.1 says.3)
pair_of line o v w (inr none) b = inr (λ tree says. none says.0 says.2)

window_of : (line : List ℕ) (w : QuerySyntax) (c : WrittenWindow) → Cases (SaysQuery line w) → Cases (SaysWindow line c) → Cases (SaysQuery line (written_window w c))
window_of line w c (inl a) (inl b) = inl (windowed a.0 b.0, (a.0, b.0, a.1, b.1, refl))
window_of line w c (inl a) (inr none) = inr (λ tree says. none says.1 says.3)
window_of line w c (inr none) b = inr (λ tree says. none says.0 says.2)

transform_of : (line : List ℕ) (w : QuerySyntax) (alignment : Token) → Cases (SaysQuery line w) → Cases (SaysQuery line (written_transform w alignment))
transform_of line w alignment (inl said) = inl (transformed said.0 (token_text line alignment), (said.0, said.1, refl))
transform_of line w alignment (inr none) = inr (λ tree says. none says.0 says.1)

gaps_of : (line : List ℕ) (w : QuerySyntax) → Cases (SaysQuery line w) → Cases (SaysQuery line (written_gaps w))
gaps_of line w (inl said) = inl (gapped said.0, (said.0, said.1, refl))
gaps_of line w (inr none) = inr (λ tree says. none says.0 says.1)

query_cases : (line : List ℕ) (w : QuerySyntax) → Cases (SaysQuery line w)
query_cases line (written_name name) = inl (named (token_text line name), refl)
query_cases line (written_where w c) = where_of line w c (query_cases line w) (condition_cases line c)
query_cases line (written_dissolve w names) = dissolve_of line w names (query_cases line w)
query_cases line (written_rename w from to) = rename_of line w from to (query_cases line w)
query_cases line (written_pair o v w) = pair_of line o v w (query_cases line v) (query_cases line w)
query_cases line (written_window w c) = window_of line w c (query_cases line w) (window_cases line c)
query_cases line (written_transform w alignment) = transform_of line w alignment (query_cases line w)
query_cases line (written_gaps w) = gaps_of line w (query_cases line w)

some_removal : (line : List ℕ) (w : ConditionSyntax) → Cases (SaysCondition line w) → Cases (SaysRemoval line (Some w))
some_removal line w (inl said) = inl (Some said.0, (said.0, said.1, refl))
some_removal line w (inr none) = inr (λ tree says. none says.0 says.1)

removal_cases : (line : List ℕ) (w : Option ConditionSyntax) → Cases (SaysRemoval line w)
removal_cases line None = inl (None, refl)
removal_cases line (Some w) = some_removal line w (condition_cases line w)

-- Commands.
route_of : (line : List ℕ) (tokens : List Token) (n s f : Token) → Cases (SaysMeasure (token_text line s)) → Cases (SaysMeasure (token_text line f)) → Cases (Says line tokens (written_route n s f))
route_of line tokens n s f (inl a) (inl b) = inl (define_route (token_text line n) a.0 b.0, (a.0, b.0, a.1, b.1, refl))
route_of line tokens n s f (inl a) (inr none) = inr (λ tree says. none says.1 says.3)
route_of line tokens n s f (inr none) b = inr (λ tree says. none says.0 says.2)

table_of : (line : List ℕ) (tokens : List Token) (k : Kind) (n : Token) (ws : List WrittenColumn) → Cases (SaysColumns line ws) → Cases (Says line tokens (written_table k n ws))
table_of line tokens k n ws (inl columns) = inl (define_table k (token_text line n) columns.0, (columns.0, columns.1, refl))
table_of line tokens k n ws (inr none) = inr (λ tree says. none says.0 says.1)

referent_of : (line : List ℕ) (tokens : List Token) (r n : Token) (w : WrittenPosition) → Cases (SaysPosition line w) → Cases (Says line tokens (written_referent r n w))
referent_of line tokens r n w (inl position) = inl (define_referent (token_text line r) (token_text line n) position.0, (position.0, position.1, refl))
referent_of line tokens r n w (inr none) = inr (λ tree says. none says.0 says.1)

view_of : (line : List ℕ) (tokens : List Token) (n : Token) (w : QuerySyntax) → Cases (SaysQuery line w) → Cases (Says line tokens (written_view n w))
view_of line tokens n w (inl query) = inl (define_view (token_text line n) query.0 (view_text line tokens), (query.0, query.1, refl))
view_of line tokens n w (inr none) = inr (λ tree says. none says.0 says.1)

alignment_of : (line : List ℕ) (tokens : List Token) (n : Token) (ws : List WrittenPiece) → Cases (SaysPieces line ws) → Cases (Says line tokens (written_alignment n ws))
alignment_of line tokens n ws (inl pieces) = inl (define_alignment (token_text line n) pieces.0, (pieces.0, pieces.1, refl))
alignment_of line tokens n ws (inr none) = inr (λ tree says. none says.0 says.1)

move_of : (line : List ℕ) (tokens : List Token) (r n : Token) (w : WrittenPosition) → Cases (SaysPosition line w) → Cases (Says line tokens (written_move r n w))
move_of line tokens r n w (inl position) = inl (move_referent (token_text line r) (token_text line n) position.0, (position.0, position.1, refl))
move_of line tokens r n w (inr none) = inr (λ tree says. none says.0 says.1)

insert_of : (line : List ℕ) (tokens : List Token) (t r : Token) (w : WrittenLocation) (ws : List WrittenValue) → Cases (SaysLocation line w) → Cases (SaysRow line ws) → Cases (Says line tokens (written_insert t r w ws))
insert_of line tokens t r w ws (inl place) (inl row) = inl (insert (token_text line t) (token_text line r) place.0 row.0, (place.0, row.0, place.1, row.1, refl))
insert_of line tokens t r w ws (inl place) (inr none) = inr (λ tree says. none says.1 says.3)
insert_of line tokens t r w ws (inr none) row = inr (λ tree says. none says.0 says.2)

remove_of : (line : List ℕ) (tokens : List Token) (t : Token) (w : WrittenWindow) (c : Option ConditionSyntax) → Cases (SaysWindow line w) → Cases (SaysRemoval line c) → Cases (Says line tokens (written_remove t w c))
remove_of line tokens t w c (inl window) (inl condition) = inl (remove (token_text line t) window.0 condition.0, (window.0, condition.0, window.1, condition.1, refl))
remove_of line tokens t w c (inl window) (inr none) = inr (λ tree says. none says.1 says.3)
remove_of line tokens t w c (inr none) condition = inr (λ tree says. none says.0 says.2)

translate_of : (line : List ℕ) (tokens : List Token) (r : Token) (w : WrittenPosition) (m : Method) → Cases (SaysPosition line w) → Cases (Says line tokens (written_translate r w m))
translate_of line tokens r w m (inl position) = inl (translate (token_text line r) position.0 m, (position.0, position.1, refl))
translate_of line tokens r w m (inr none) = inr (λ tree says. none says.0 says.1)

select_of : (line : List ℕ) (tokens : List Token) (w : QuerySyntax) (m : Option Method) → Cases (SaysQuery line w) → Cases (Says line tokens (written_select w m))
select_of line tokens w m (inl query) = inl (select query.0 (unwrap_or m methods.Absolute), (query.0, query.1, refl))
select_of line tokens w m (inr none) = inr (λ tree says. none says.0 says.1)

total_of : (line : List ℕ) (tokens : List Token) (w : QuerySyntax) (by : List Token) (summed : Option Token) → Cases (SaysQuery line w) → Cases (Says line tokens (written_total w by summed))
total_of line tokens w by summed (inl query) = inl (total query.0 (map (token_text line) by) (summed_name line summed), (query.0, query.1, refl))
total_of line tokens w by summed (inr none) = inr (λ tree says. none says.0 says.1)

explain_of : (line : List ℕ) (tokens : List Token) (w : QuerySyntax) → Cases (SaysQuery line w) → Cases (Says line tokens (written_explain w))
explain_of line tokens w (inl query) = inl (explain query.0, (query.0, query.1, refl))
explain_of line tokens w (inr none) = inr (λ tree says. none says.0 says.1)

open_of : (line : List ℕ) (tokens : List Token) (n : Token) (w : QuerySyntax) (m : Option Method) → Cases (SaysQuery line w) → Cases (Says line tokens (written_open n w m))
open_of line tokens n w m (inl query) = inl (open_cursor (token_text line n) query.0 (unwrap_or m methods.Absolute), (query.0, query.1, refl))
open_of line tokens n w m (inr none) = inr (λ tree says. none says.0 says.1)

fetch_of : (line : List ℕ) (tokens : List Token) (n w : Token) → Cases (SaysRows (token_text line w)) → Cases (Says line tokens (written_fetch n w))
fetch_of line tokens n w (inl rows) = inl (fetch (token_text line n) rows.0, (rows.0, rows.1, refl))
fetch_of line tokens n w (inr none) = inr (λ tree says. none says.0 says.1)

pub says_cases : (line : List ℕ) (tokens : List Token) (w : Written) → Cases (Says line tokens w)
says_cases line tokens (written_route n s f) = route_of line tokens n s f (measure_cases (token_text line s)) (measure_cases (token_text line f))
says_cases line tokens (written_table k n ws) = table_of line tokens k n ws (columns_cases line ws)
says_cases line tokens (written_referent r n w) = referent_of line tokens r n w (position_cases line w)
says_cases line tokens (written_index n t c) = inl (define_index (token_text line n) (token_text line t) (token_text line c), refl)
says_cases line tokens (written_view n w) = view_of line tokens n w (query_cases line w)
says_cases line tokens (written_alignment n ws) = alignment_of line tokens n ws (pieces_cases line ws)
says_cases line tokens (written_move r n w) = move_of line tokens r n w (position_cases line w)
says_cases line tokens (written_drop_route n) = inl (drop_route (token_text line n), refl)
says_cases line tokens (written_drop_table n) = inl (drop_table (token_text line n), refl)
says_cases line tokens (written_drop_index n) = inl (drop_index (token_text line n), refl)
says_cases line tokens (written_drop_view n) = inl (drop_view (token_text line n), refl)
says_cases line tokens (written_drop_alignment n) = inl (drop_alignment (token_text line n), refl)
says_cases line tokens (written_drop_referent r n) = inl (drop_referent (token_text line r) (token_text line n), refl)
says_cases line tokens (written_insert t r w ws) = insert_of line tokens t r w ws (location_cases line w) (row_cases line ws)
says_cases line tokens (written_remove t w c) = remove_of line tokens t w c (window_cases line w) (removal_cases line c)
says_cases line tokens (written_translate r w m) = translate_of line tokens r w m (position_cases line w)
says_cases line tokens (written_select w m) = select_of line tokens w m (query_cases line w)
says_cases line tokens (written_total w by summed) = total_of line tokens w by summed (query_cases line w)
says_cases line tokens (written_explain w) = explain_of line tokens w (query_cases line w)
says_cases line tokens (written_open n w m) = open_of line tokens n w m (query_cases line w)
says_cases line tokens (written_fetch n w) = fetch_of line tokens n w (rows_cases (token_text line w))
says_cases line tokens (written_close n) = inl (close_cursor (token_text line n), refl)
says_cases line tokens written_save = inl (save, refl)
says_cases line tokens written_reopen = inl (reopen, refl)
