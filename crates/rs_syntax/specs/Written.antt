-- A command as a line writes it, and what it says.
use Rattle.std.specs.Prelude.{◌≡◌, ℕ, ◌+◌, ◌-◌, ◌<◌, List, [], ◌∷◌, ◌++◌, length, take, drop, map, Option, unwrap_or}
use Rattle.rs_measure.specs.Measure.{SaysMeasure}
use Rattle.rs_methods.specs.Position.{PositionExpression}
use Rattle.rs_methods.specs.declared.position.Method.{Method}
use Rattle.rs_methods.specs.declared.position.Method.TheVariants as methods
use Rattle.rs_value.specs.declared.column.Kind.{Kind}
use Rattle.rs_value.specs.declared.column.ColumnType.{ColumnType}
use Rattle.rs_value.specs.Row.{Row}
use Rattle.rs_grammar.specs.declared.kind.TokenKind.TheVariants as kinds
use Rattle.rs_lexer.specs.declared.token.Token.{Token}
use Rattle.rs_lexer.specs.Lexis.{token_text}
use Rattle.rs_syntax.specs.declared.written.WrittenColumn.{WrittenColumn}
use Rattle.rs_syntax.specs.declared.written.WrittenValue.{WrittenValue}
use Rattle.rs_syntax.specs.declared.written.WrittenPosition.{WrittenPosition}
use Rattle.rs_syntax.specs.declared.written.WrittenLocation.{WrittenLocation}
use Rattle.rs_syntax.specs.declared.written.WrittenWindow.{WrittenWindow}
use Rattle.rs_syntax.specs.declared.written.WrittenPiece.{WrittenPiece}
use Rattle.rs_syntax.specs.Tree.{EventLocationTree, WindowTree, PieceTree, ConditionTree, QueryTree, CommandTree, define_route, define_table, define_referent, define_index, define_view, define_alignment, move_referent, drop_route, drop_table, drop_index, drop_view, drop_alignment, drop_referent, insert, remove, translate, select, total, explain, open_cursor, fetch, close_cursor, save, reopen}
-- the parts that a command is made of
pub use Rattle.rs_syntax.specs.WrittenParts.{Lexeme, mark, told, has_text, lexeme_of, lexemes_of, measure_lexemes, position_lexemes, span_lexemes, location_lexemes, method_kind, method_lexemes, wanted_lexemes, table_kind, type_lexemes, column_lexemes, value_lexemes, name_lexemes, summed_lexemes, piece_lexemes, further_lexemes, list_lexemes, IsToldOf, AreToldOf, SaysType, SaysColumns, SaysRows, unquoted_rest, unquoted, signed, SaysDatum, SaysRow, SaysPosition, SaysLocation, SaysPiece, SaysPieces, summed_name}
pub use Rattle.rs_syntax.specs.WrittenQueries.{AtomSyntax, written_comparison, written_null, written_not_null, written_negation, written_bracket, ConjunctionSyntax, last_atom, and_then, ConditionSyntax, last_conjunction, or_else, QuerySyntax, written_name, written_where, written_dissolve, written_rename, written_pair, written_window, written_transform, written_gaps, window_lexemes, comparison_kind, comparison_lexemes, operand_lexemes, atom_lexemes, conjunction_lexemes, condition_lexemes, bracketed_names_lexemes, pair_kind, operator_lexemes, query_lexemes, removal_lexemes, SaysWindow, SaysOperand, SaysAtom, SaysConjunction, SaysCondition, paired, SaysQuery, SaysRemoval}

-- a command whose names, numbers and texts are still tokens of the line
pub data Written : Type 0 where
  written_route : Token → Token → Token → Written  -- name, start, finish
  written_table : Kind → Token → List WrittenColumn → Written  -- kind, name, columns
  written_referent : Token → Token → WrittenPosition → Written  -- route, name, position
  written_index : Token → Token → Token → Written  -- name, table, column
  written_view : Token → QuerySyntax → Written  -- name, query
  written_alignment : Token → List WrittenPiece → Written  -- name, pieces
  written_move : Token → Token → WrittenPosition → Written  -- route, name, position
  written_drop_route : Token → Written  -- name
  written_drop_table : Token → Written  -- name
  written_drop_index : Token → Written  -- name
  written_drop_view : Token → Written  -- name
  written_drop_alignment : Token → Written  -- name
  written_drop_referent : Token → Token → Written  -- route, name
  written_insert : Token → Token → WrittenLocation → List WrittenValue → Written  -- table, route, place, values
  written_remove : Token → WrittenWindow → Option ConditionSyntax → Written  -- table, where, which rows
  written_translate : Token → WrittenPosition → Method → Written  -- route, position, the method wanted
  written_select : QuerySyntax → Option Method → Written  -- query, the method after AS
  written_total : QuerySyntax → List Token → Option Token → Written  -- query, the columns after BY, the column after SUM
  written_explain : QuerySyntax → Written  -- query
  written_open : Token → QuerySyntax → Option Method → Written  -- cursor, query, the method after AS
  written_fetch : Token → Token → Written  -- cursor, how many rows
  written_close : Token → Written  -- cursor
  written_save : Written
  written_reopen : Written

-- how a command is spelled
abbrev pub spelling : Written → List Lexeme
spelling (written_route name start finish) =
    mark kinds.Define ∷ mark kinds.Route ∷ told kinds.Name name
    ∷ mark kinds.From ∷ (measure_lexemes start ++ mark kinds.To ∷ measure_lexemes finish)
spelling (written_table kind name columns) =
    mark kinds.Define ∷ mark (table_kind kind) ∷ mark kinds.Table ∷ told kinds.Name name
    ∷ mark kinds.LeftParen ∷ (list_lexemes kinds.Comma column_lexemes columns ++ mark kinds.RightParen ∷ [])
spelling (written_referent route name position) =
    mark kinds.Define ∷ mark kinds.Referent ∷ told kinds.Name route ∷ told kinds.Name name ∷ mark kinds.At ∷ position_lexemes position
spelling (written_index name table column) =
    mark kinds.Define ∷ mark kinds.Index ∷ told kinds.Name name ∷ mark kinds.On ∷ told kinds.Name table
    ∷ mark kinds.LeftParen ∷ told kinds.Name column ∷ mark kinds.RightParen ∷ []
spelling (written_view name query) = mark kinds.Define ∷ mark kinds.View ∷ told kinds.Name name ∷ mark kinds.As ∷ query_lexemes query
spelling (written_alignment name pieces) =
    mark kinds.Define ∷ mark kinds.Alignment ∷ told kinds.Name name
    ∷ mark kinds.LeftParen ∷ (list_lexemes kinds.Comma piece_lexemes pieces ++ mark kinds.RightParen ∷ [])
spelling (written_move route name position) =
    mark kinds.Move ∷ mark kinds.Referent ∷ told kinds.Name route ∷ told kinds.Name name ∷ mark kinds.To ∷ position_lexemes position
spelling (written_drop_route name) = mark kinds.Drop ∷ mark kinds.Route ∷ told kinds.Name name ∷ []
spelling (written_drop_table name) = mark kinds.Drop ∷ mark kinds.Table ∷ told kinds.Name name ∷ []
spelling (written_drop_index name) = mark kinds.Drop ∷ mark kinds.Index ∷ told kinds.Name name ∷ []
spelling (written_drop_view name) = mark kinds.Drop ∷ mark kinds.View ∷ told kinds.Name name ∷ []
spelling (written_drop_alignment name) = mark kinds.Drop ∷ mark kinds.Alignment ∷ told kinds.Name name ∷ []
spelling (written_drop_referent route name) = mark kinds.Drop ∷ mark kinds.Referent ∷ told kinds.Name route ∷ told kinds.Name name ∷ []
spelling (written_insert table route place values) =
    mark kinds.Insert ∷ mark kinds.Into ∷ told kinds.Name table ∷ mark kinds.On ∷ told kinds.Name route
    ∷ (location_lexemes place ++ mark kinds.Values ∷ mark kinds.LeftParen ∷ (list_lexemes kinds.Comma value_lexemes values ++ mark kinds.RightParen ∷ []))
spelling (written_remove table window condition) =
    mark kinds.Remove ∷ told kinds.Name table ∷ mark kinds.On ∷ (window_lexemes window ++ removal_lexemes condition)
spelling (written_translate route position method) =
    mark kinds.Translate ∷ told kinds.Name route ∷ (position_lexemes position ++ mark kinds.As ∷ method_lexemes method)
spelling (written_select query method) = mark kinds.Select ∷ (query_lexemes query ++ wanted_lexemes method)
spelling (written_total query by summed) =
    mark kinds.Total ∷ (query_lexemes query ++ mark kinds.By ∷ (bracketed_names_lexemes by ++ summed_lexemes summed))
spelling (written_explain query) = mark kinds.Explain ∷ query_lexemes query
spelling (written_open cursor query method) =
    mark kinds.Open ∷ told kinds.Name cursor ∷ mark kinds.For ∷ (query_lexemes query ++ wanted_lexemes method)
spelling (written_fetch cursor rows) = mark kinds.Fetch ∷ told kinds.Name cursor ∷ told kinds.Whole rows ∷ []
spelling (written_close cursor) = mark kinds.Close ∷ told kinds.Name cursor ∷ []
spelling written_save = mark kinds.Save ∷ []
spelling written_reopen = mark kinds.Reopen ∷ []

-- a list of the command has an item at least
abbrev pub IsFull : Written → Type 0
IsFull (written_table kind name columns) = 0 < length columns
IsFull (written_alignment name pieces) = 0 < length pieces
IsFull (written_insert table route place values) = 0 < length values
IsFull _ = Unit {0}

-- the byte place after the last of the tokens
abbrev pub end_of : List Token → ℕ
end_of [] = 0
end_of (token ∷ []) = token.first + token.length
end_of (token ∷ next ∷ tokens) = end_of (next ∷ tokens)

-- the line from the first of the tokens to the end of the last
abbrev pub text_of_tokens : List ℕ → List Token → List ℕ
text_of_tokens line [] = []
text_of_tokens line (token ∷ tokens) = take (end_of (token ∷ tokens) - token.first) (drop token.first line)

-- the text of a view's query, which is all that the line has after DEFINE, VIEW, the name and AS
abbrev pub view_text : List ℕ → List Token → List ℕ
view_text line tokens = text_of_tokens line (drop 4 tokens)

-- What a command says that these tokens of a line write; nothing where a number of it is out of its range. Where no
-- method is named, positions are absolute.
abbrev pub Says : List ℕ → List Token → Written → CommandTree → Type 0
Says line tokens (written_route name start finish) tree =
    (from : ℕ) × (to : ℕ) × SaysMeasure (token_text line start) from × SaysMeasure (token_text line finish) to
    × (tree ≡ define_route (token_text line name) from to)
Says line tokens (written_table kind name columns) tree =
    (definitions : List (List ℕ × ColumnType)) × SaysColumns line columns definitions × (tree ≡ define_table kind (token_text line name) definitions)
Says line tokens (written_referent route name written) tree =
    (position : PositionExpression) × SaysPosition line written position × (tree ≡ define_referent (token_text line route) (token_text line name) position)
Says line tokens (written_index name table column) tree = tree ≡ define_index (token_text line name) (token_text line table) (token_text line column)
Says line tokens (written_view name written) tree =
    (query : QueryTree) × SaysQuery line written query × (tree ≡ define_view (token_text line name) query (view_text line tokens))
Says line tokens (written_alignment name written) tree =
    (pieces : List PieceTree) × SaysPieces line written pieces × (tree ≡ define_alignment (token_text line name) pieces)
Says line tokens (written_move route name written) tree =
    (position : PositionExpression) × SaysPosition line written position × (tree ≡ move_referent (token_text line route) (token_text line name) position)
Says line tokens (written_drop_route name) tree = tree ≡ drop_route (token_text line name)
Says line tokens (written_drop_table name) tree = tree ≡ drop_table (token_text line name)
Says line tokens (written_drop_index name) tree = tree ≡ drop_index (token_text line name)
Says line tokens (written_drop_view name) tree = tree ≡ drop_view (token_text line name)
Says line tokens (written_drop_alignment name) tree = tree ≡ drop_alignment (token_text line name)
Says line tokens (written_drop_referent route name) tree = tree ≡ drop_referent (token_text line route) (token_text line name)
Says line tokens (written_insert table route written values) tree =
    (place : EventLocationTree) × (row : Row) × SaysLocation line written place × SaysRow line values row
    × (tree ≡ insert (token_text line table) (token_text line route) place row)
Says line tokens (written_remove table written wanted) tree =
    (window : WindowTree) × (condition : Option ConditionTree) × SaysWindow line written window × SaysRemoval line wanted condition
    × (tree ≡ remove (token_text line table) window condition)
Says line tokens (written_translate route written method) tree =
    (position : PositionExpression) × SaysPosition line written position × (tree ≡ translate (token_text line route) position method)
Says line tokens (written_select written method) tree =
    (query : QueryTree) × SaysQuery line written query × (tree ≡ select query (unwrap_or method methods.Absolute))
Says line tokens (written_total written by summed) tree =
    (query : QueryTree) × SaysQuery line written query × (tree ≡ total query (map (token_text line) by) (summed_name line summed))
Says line tokens (written_explain written) tree = (query : QueryTree) × SaysQuery line written query × (tree ≡ explain query)
Says line tokens (written_open cursor written method) tree =
    (query : QueryTree) × SaysQuery line written query × (tree ≡ open_cursor (token_text line cursor) query (unwrap_or method methods.Absolute))
Says line tokens (written_fetch cursor written) tree =
    (rows : ℕ) × SaysRows (token_text line written) rows × (tree ≡ fetch (token_text line cursor) rows)
Says line tokens (written_close cursor) tree = tree ≡ close_cursor (token_text line cursor)
Says line tokens written_save tree = tree ≡ save
Says line tokens written_reopen tree = tree ≡ reopen
