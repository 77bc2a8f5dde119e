-- The value of a checked query of the code, and what it names by number.
use Rattle.std.specs.Prelude.{List, [], ◌∷◌, ◌++◌, map, flat_map}
use Rattle.rs_facts.specs.ConditionView.{condition_of}
use Rattle.rs_facts.specs.Query as queries
use Rattle.rs_planning.specs.Numbered.{Numbered, numbered_table, numbered_route}
use Rattle.rs_syntax.specs.View.{piece_tree}
use Rattle.rs_machine.specs.Checks.{piece_of}
use Rattle.rs_checker.specs.declared.checked.CheckedTable.{CheckedTable}
use Rattle.rs_checker.specs.declared.checked.LocatedPiece.{LocatedPiece}
use Rattle.rs_checker.specs.declared.checked.LocatedWindow.{LocatedWindow}
use Rattle.rs_checker.specs.declared.checked.LocatedWindow.TheVariants as windows
use Rattle.rs_checker.specs.declared.checked.CheckedQuery.{CheckedQuery, fold-CheckedQuery}
use Rattle.rs_checker.specs.declared.checked.CheckedQuery.TheOpen.{CheckedQuery-F}

abbrev pub window_of : LocatedWindow → queries.Window
window_of (windows.Whole route number) = queries.on_route route.bytes
window_of (windows.Part route number from to) = queries.between route.bytes from to

abbrev pub located_piece : LocatedPiece → queries.Piece
located_piece located = piece_of (piece_tree located.piece)

abbrev pub located_pieces : List LocatedPiece → List queries.Piece
located_pieces pieces = map located_piece pieces

-- one level, with the value of each operand in its place
abbrev pub query_step : CheckedQuery-F queries.Query → queries.Query
query_step (CheckedQuery-F.Table table) = queries.table_rows table.name.bytes
query_step (CheckedQuery-F.Where query condition) = queries.where_rows query.value (condition_of condition)
query_step (CheckedQuery-F.Dissolve query columns) = queries.dissolve_rows query.value columns.items
query_step (CheckedQuery-F.Rename query column name) = queries.rename_column query.value column name.bytes
query_step (CheckedQuery-F.Overlay left right) = queries.overlay_rows left.value right.value
query_step (CheckedQuery-F.Cover left_width right_width left right) = queries.cover_rows left_width right_width left.value right.value
query_step (CheckedQuery-F.Merge left right) = queries.merge_rows left.value right.value
query_step (CheckedQuery-F.Minus left right) = queries.minus_rows left.value right.value
query_step (CheckedQuery-F.Window query window) = queries.window_rows query.value (window_of window)
query_step (CheckedQuery-F.Transform query name pieces) = queries.transform_rows query.value name.bytes (located_pieces pieces.items)
query_step (CheckedQuery-F.Gaps query) = queries.gaps_rows query.value

abbrev pub query_of : CheckedQuery → queries.Query
query_of = fold-CheckedQuery queries.Query query_step

-- ---- what it names

abbrev pub named_table : CheckedTable → Numbered
named_table table = numbered_table table.name.bytes table.number table.kind table.width

abbrev pub named_by_window : LocatedWindow → Numbered
named_by_window (windows.Whole route number) = numbered_route route.bytes number
named_by_window (windows.Part route number from to) = numbered_route route.bytes number

abbrev pub named_by_piece : LocatedPiece → List Numbered
named_by_piece located = numbered_route located.piece.from_route.bytes located.from_number ∷ numbered_route located.piece.onto_route.bytes located.onto_number ∷ []

-- one level, with what each operand names in its place
abbrev pub named_step : CheckedQuery-F (List Numbered) → List Numbered
named_step (CheckedQuery-F.Table table) = named_table table ∷ []
named_step (CheckedQuery-F.Where query condition) = query.value
named_step (CheckedQuery-F.Dissolve query columns) = query.value
named_step (CheckedQuery-F.Rename query column name) = query.value
named_step (CheckedQuery-F.Overlay left right) = left.value ++ right.value
named_step (CheckedQuery-F.Cover left_width right_width left right) = left.value ++ right.value
named_step (CheckedQuery-F.Merge left right) = left.value ++ right.value
named_step (CheckedQuery-F.Minus left right) = left.value ++ right.value
named_step (CheckedQuery-F.Window query window) = query.value ++ named_by_window window ∷ []
named_step (CheckedQuery-F.Transform query name pieces) = query.value ++ flat_map named_by_piece pieces.items
named_step (CheckedQuery-F.Gaps query) = query.value

-- the tables and routes that the query names
abbrev pub named_in : CheckedQuery → List Numbered
named_in = fold-CheckedQuery (List Numbered) named_step
