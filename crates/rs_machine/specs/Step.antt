-- The step of the reference machine: one command of one session.
use Rattle.std.specs.Prelude.{ℕ, ◌+◌, Bool, false, not, ◌&&◌, ◌||◌, nat_le, nat_lt, List, [], ◌∷◌, length, take, drop, Option, Some, None, Result, Ok, map, flat_map, if◌then◌else◌}
use Rattle.std.specs.List.{list_any}
use Rattle.std.specs.FinMap as names
use Rattle.rs_refusal.specs.declared.refusal.Refusal.{Refusal}
use Rattle.rs_refusal.specs.declared.refusal.Refusal.TheVariants.{InUse, NameTaken, NoSuchReferent, Limit, EmptySpan, PointOrLineWanted, ColumnTwice, CursorNameTaken, TooManyCursors}
use Rattle.rs_methods.specs.Position.{PositionExpression, start_name, expression_at, expression_text}
use Rattle.rs_methods.specs.declared.position.Method.{Method}
use Rattle.rs_value.specs.declared.column.Kind.{Kind}
use Rattle.rs_value.specs.declared.column.TheConstants.{COLUMNS, ROW_BYTES}
use Rattle.rs_value.specs.Encoding.{row_width}
use Rattle.rs_value.specs.Row.{Row}
use Rattle.rs_facts.specs.Fact.{Name, Names, no_facts, thousandths}
use Rattle.rs_facts.specs.Insert.{same_name, after_insert, new_facts}
use Rattle.rs_facts.specs.Remove.{after_remove, removed_facts}
use Rattle.rs_facts.specs.Operators.{has_none}
use Rattle.rs_facts.specs.Query.{RouteEnds, Column, Table, Piece, Query, rows_at, kind_of}
use Rattle.rs_facts.specs.Runs.{Stretch, runs_of}
use Rattle.rs_facts.specs.LineText.{line_of}
use Rattle.rs_facts.specs.Totals.{Along, totalled}
use Rattle.rs_facts.specs.TotalText.{total_text}
use Rattle.rs_planning.specs.Basis.{IndexedColumn}
use Rattle.rs_planning.specs.Explain.{explained}
use Rattle.rs_syntax.specs.Tree.{EventLocationTree, WindowTree, PieceTree, ConditionTree, QueryTree, CommandTree, define_route, define_table, define_referent, define_index, define_view, define_alignment, move_referent, drop_route, drop_table, drop_index, drop_view, drop_alignment, drop_referent, insert, remove, translate, select, total, explain, open_cursor, fetch, close_cursor, save, reopen}
use Rattle.rs_machine.specs.declared.limits.TheConstants.{ROUTES, REFERENTS, TABLES, INDEXES, VIEWS, ALIGNMENTS, PIECES, CHANGES, CURSORS}
use Rattle.rs_machine.specs.State.{State, RowText, no_cursors, world_of, has, some_cursor, cursors_at}
use Rattle.rs_machine.specs.Checks.{◌>>=◌, unless, route_named, table_named, view_named, alignment_named, index_named, cursor_named, pieces_checked, has_table_or_view, has_referent, position_on, event_span, location_kind, window_span, window_route, same_kind, some_name_twice, column_names, column_types, row_fits}
use Rattle.rs_machine.specs.Opening.{some_view, names_query, names_alignment, names_route, names_referent, some_piece_on}
use Rattle.rs_machine.specs.Checking.{column_place, checked, removal_checked, columns_in, group_checked, summed_checked}

-- what an accepted command answers, and the state after it
pub record Effect : Type 0 where
  pub rows : List RowText
  pub count : ℕ
  pub state : State

abbrev pub effect : List RowText → ℕ → State → Effect
effect rows count state = record { rows = rows; count = count; state = state }

-- no rows, only a count
abbrev pub counted : ℕ → State → Effect
counted count state = effect [] count state

-- ---- definitions

abbrev pub may_change : State → Result (Unit {0}) Refusal
may_change state = unless (nat_lt state.changes CHANGES) Limit

abbrev pub with_route : State → Name → ℕ → ℕ → State
with_route state name start finish = record state {
  routes = names.insert state.routes name (record { start = start; finish = finish });
  changes = state.changes + 1;
}

abbrev pub route_defined : State → Name → ℕ → ℕ → Result Effect Refusal
route_defined state name start finish = do
  _ ← unless (not (has state.routes name)) NameTaken
  _ ← unless (nat_lt start finish) EmptySpan
  _ ← unless (nat_lt (names.len state.routes) ROUTES) Limit
  _ ← may_change state
  Ok (counted 0 (with_route state name start finish))

abbrev pub with_table : State → Name → Table → State
with_table state name table = record state {
  tables = names.insert state.tables name table;
  changes = state.changes + 1;
}

abbrev pub empty_table : Kind → List Column → Table
empty_table kind columns = record { kind = kind; columns = columns; facts = no_facts }

abbrev pub table_defined : State → Kind → Name → List Column → Result Effect Refusal
table_defined state kind name columns = do
  _ ← unless (not (has_table_or_view state name)) NameTaken
  _ ← unless (not (some_name_twice (column_names columns))) ColumnTwice
  _ ← unless (nat_le (length columns) COLUMNS) Limit
  _ ← unless (nat_le (row_width (column_types columns)) ROW_BYTES) Limit
  _ ← unless (nat_lt (names.len state.tables) TABLES) Limit
  _ ← may_change state
  Ok (counted 0 (with_table state name (empty_table kind columns)))

abbrev pub with_index : State → Name → IndexedColumn → State
with_index state name index = record state {
  indexes = names.insert state.indexes name index;
  changes = state.changes + 1;
}

abbrev pub index_defined : State → Name → Name → Name → Result Effect Refusal
index_defined state name of column = do
  table ← table_named state of
  place ← column_place table.columns column
  _ ← unless (not (has state.indexes name)) NameTaken
  _ ← unless (nat_lt (names.len state.indexes) INDEXES) Limit
  _ ← may_change state
  Ok (counted 0 (with_index state name (record { table = of; column = place })))

abbrev pub with_view : State → Name → QueryTree → State
with_view state name query = record state {
  views = names.insert state.views name query;
  changes = state.changes + 1;
}

abbrev pub view_defined : State → Name → QueryTree → Result Effect Refusal
view_defined state name query = do
  _ ← checked state query
  _ ← unless (not (has_table_or_view state name)) NameTaken
  _ ← unless (nat_lt (names.len state.views) VIEWS) Limit
  _ ← may_change state
  Ok (counted 0 (with_view state name query))

abbrev pub with_alignment : State → Name → List Piece → State
with_alignment state name pieces = record state {
  alignments = names.insert state.alignments name pieces;
  changes = state.changes + 1;
}

abbrev pub alignment_defined : State → Name → List PieceTree → Result Effect Refusal
alignment_defined state name written = do
  _ ← unless (not (has state.alignments name)) NameTaken
  _ ← unless (nat_lt (names.len state.alignments) ALIGNMENTS && nat_le (length written) PIECES) Limit
  pieces ← pieces_checked state.routes written
  _ ← may_change state
  Ok (counted 0 (with_alignment state name pieces))

-- ---- what is dropped

-- Nobody waits for rows that a cursor has still to give.
abbrev pub no_cursor_waits : State → Result (Unit {0}) Refusal
no_cursor_waits state = unless (not (some_cursor state.cursors)) InUse

-- whether the table has a fact on the route
abbrev pub has_fact_on : Name → RouteEnds → Table → Bool
has_fact_on route ends table = list_any (λ k. not (has_none (table.facts route k))) (thousandths ends.start (ends.finish + 1))

abbrev pub some_table : State → (Table → Bool) → Bool
some_table state test = list_any (λ table. test table.1) (names.entries state.tables)

-- one route has other referents
unfoldable pub referents_at : Name → Names ℕ → (Name → Names ℕ) → Name → Names ℕ
referents_at route referents old = λ name. if same_name name route then referents else old name

-- the route and its referents go
abbrev pub without_route : State → Name → State
without_route state name = record state {
  routes = names.remove state.routes name;
  referents = referents_at name names.empty state.referents;
  changes = state.changes + 1;
}

abbrev pub route_dropped : State → Name → Result Effect Refusal
route_dropped state name = do
  ends ← route_named state name
  _ ← unless (not (some_table state (has_fact_on name ends) || some_piece_on state name || some_view state (names_route name))) InUse
  _ ← no_cursor_waits state
  _ ← may_change state
  Ok (counted 0 (without_route state name))

-- whether it is an index, and of another table than this
abbrev pub is_of_another : Name → Option IndexedColumn → Bool
is_of_another table None = false
is_of_another table (Some index) = not (same_name table index.table)

-- the indexes of other tables than this
unfoldable pub indexes_of_others : Name → Names IndexedColumn → Names IndexedColumn
indexes_of_others table indexes = names.retain_keys indexes (λ name. is_of_another table (names.get indexes name))

-- the table and its indexes go
abbrev pub without_table : State → Name → State
without_table state name = record state {
  tables = names.remove state.tables name;
  indexes = indexes_of_others name state.indexes;
  changes = state.changes + 1;
}

abbrev pub table_dropped : State → Name → Result Effect Refusal
table_dropped state name = do
  _ ← table_named state name
  _ ← unless (not (some_view state (names_query name))) InUse
  _ ← no_cursor_waits state
  _ ← may_change state
  Ok (counted 0 (without_table state name))

abbrev pub without_index : State → Name → State
without_index state name = record state { indexes = names.remove state.indexes name; changes = state.changes + 1 }

abbrev pub index_dropped : State → Name → Result Effect Refusal
index_dropped state name = do
  _ ← index_named state name
  _ ← no_cursor_waits state
  _ ← may_change state
  Ok (counted 0 (without_index state name))

abbrev pub without_view : State → Name → State
without_view state name = record state { views = names.remove state.views name; changes = state.changes + 1 }

abbrev pub view_dropped : State → Name → Result Effect Refusal
view_dropped state name = do
  _ ← view_named state name
  _ ← unless (not (some_view state (names_query name))) InUse
  _ ← may_change state
  Ok (counted 0 (without_view state name))

abbrev pub without_alignment : State → Name → State
without_alignment state name = record state { alignments = names.remove state.alignments name; changes = state.changes + 1 }

abbrev pub alignment_dropped : State → Name → Result Effect Refusal
alignment_dropped state name = do
  _ ← alignment_named state name
  _ ← unless (not (some_view state (names_alignment name))) InUse
  _ ← may_change state
  Ok (counted 0 (without_alignment state name))

-- ---- referents

abbrev pub with_referents : State → Name → Names ℕ → State
with_referents state route referents = record state {
  referents = referents_at route referents state.referents;
  changes = state.changes + 1;
}

abbrev pub referent_defined : State → Name → Name → PositionExpression → Result Effect Refusal
referent_defined state route name position = do
  ends ← route_named state route
  measure ← position_on state route ends position
  _ ← unless (not (has_referent state route name)) NameTaken
  _ ← unless (nat_lt (names.len (state.referents route)) REFERENTS) Limit
  _ ← may_change state
  Ok (counted 0 (with_referents state route (names.insert (state.referents route) name measure)))

abbrev pub referent_moved : State → Name → Name → PositionExpression → Result Effect Refusal
referent_moved state route name position = do
  ends ← route_named state route
  _ ← unless (has_referent state route name) NoSuchReferent
  _ ← unless (not (same_name start_name name)) InUse
  measure ← position_on state route ends position
  _ ← may_change state
  Ok (counted 0 (with_referents state route (names.insert (state.referents route) name measure)))

abbrev pub referent_dropped : State → Name → Name → Result Effect Refusal
referent_dropped state route name = do
  _ ← route_named state route
  _ ← unless (has_referent state route name) NoSuchReferent
  _ ← unless (not (same_name start_name name || some_view state (names_referent route name))) InUse
  _ ← may_change state
  Ok (counted 0 (with_referents state route (names.remove (state.referents route) name)))

-- ---- insertion and removal

abbrev pub with_facts_along : Table → Name → ℕ → ℕ → Row → Table
with_facts_along table route from to row = record table { facts = after_insert table.facts route from to row }

abbrev pub row_inserted : State → Name → Name → EventLocationTree → Row → Result Effect Refusal
row_inserted state name route place row = do
  ends ← route_named state route
  table ← table_named state name
  span ← event_span state route ends place
  _ ← unless (same_kind table.kind (location_kind place)) PointOrLineWanted
  _ ← row_fits table.columns row
  _ ← may_change state
  Ok (counted (new_facts table.facts route span.0 span.1 row) (with_table state name (with_facts_along table route span.0 span.1 row)))

abbrev pub without_facts : Table → Name → ℕ → ℕ → (Row → Bool) → Table
without_facts table route from to goes = record table { facts = after_remove table.facts route from to goes }

abbrev pub rows_removed : State → Name → WindowTree → Option ConditionTree → Result Effect Refusal
rows_removed state name window condition = do
  ends ← route_named state (window_route window)
  table ← table_named state name
  span ← window_span state ends window
  goes ← removal_checked table.columns condition
  _ ← may_change state
  Ok (counted (removed_facts table.facts (window_route window) span.0 span.1 goes) (with_table state name (without_facts table (window_route window) span.0 span.1 goes)))

-- ---- positions

-- how a measure of the route is printed by a method
abbrev pub position_text : State → Name → RouteEnds → Method → ℕ → List ℕ
position_text state route ends method k = expression_text (expression_at ends.start ends.finish (names.entries (state.referents route)) method k)

abbrev pub position_translated : State → Name → PositionExpression → Method → Result Effect Refusal
position_translated state route position method = do
  ends ← route_named state route
  measure ← position_on state route ends position
  Ok (effect (position_text state route ends method measure ∷ []) 1 state)

-- ---- queries

-- The query's runs on one route. A point may stand at the route's end, so the end itself is looked at; no line
-- holds there.
abbrev pub printed_runs : State → Query → Name → RouteEnds → List Stretch
printed_runs state query route ends = runs_of (kind_of (world_of state) query) (rows_at (world_of state) query route) ends.start (ends.finish + 1)

abbrev pub lines_on : State → Query → Method → Name → RouteEnds → List RowText
lines_on state query method route ends = map (line_of (position_text state route ends method) (kind_of (world_of state) query) route) (printed_runs state query route ends)

-- by route name, then by place, then by row
abbrev pub lines_of : State → Query → Method → List RowText
lines_of state query method = flat_map (λ route. lines_on state query method route.0 route.1) (names.entries state.routes)

abbrev pub selected : State → QueryTree → Method → Result Effect Refusal
selected state tree method = do
  query ← checked state tree
  Ok (effect (lines_of state query method) (length (lines_of state query method)) state)

-- ---- totals

-- the query's rows along each route
abbrev pub rows_along : State → Query → List Along
rows_along state query = map (λ route. record { from = route.1.start; to = route.1.finish + 1; places = rows_at (world_of state) query route.0 }) (names.entries state.routes)

abbrev pub totals_printed : State → QueryTree → List Name → Option Name → Result Effect Refusal
totals_printed state tree by summed = do
  query ← checked state tree
  group ← group_checked (columns_in state query) by
  column ← summed_checked (columns_in state query) summed
  totals ← totalled group column (rows_along state query)
  Ok (effect (map (total_text (kind_of (world_of state) query)) totals) (length totals) state)

-- ---- plans

-- the lines of the query's plan
abbrev pub plan_printed : State → QueryTree → Result Effect Refusal
plan_printed state tree = do
  query ← checked state tree
  Ok (effect (explained (world_of state) state.indexes query) (length (explained (world_of state) state.indexes query)) state)

-- ---- cursors

abbrev pub with_cursors : State → ℕ → Names (List RowText) → State
with_cursors state session cursors = record state { cursors = cursors_at session cursors state.cursors }

-- a cursor that has still to give these lines
abbrev pub with_cursor : State → ℕ → Name → List RowText → State
with_cursor state session name lines = with_cursors state session (names.insert (state.cursors session) name lines)

-- It gives the lines that SELECT would print now.
abbrev pub cursor_opened : State → ℕ → Name → QueryTree → Method → Result Effect Refusal
cursor_opened state session name tree method = do
  query ← checked state tree
  _ ← unless (not (has (state.cursors session) name)) CursorNameTaken
  _ ← unless (nat_lt (names.len (state.cursors session)) CURSORS) TooManyCursors
  Ok (counted 0 (with_cursor state session name (lines_of state query method)))

-- the next lines, so many or as many as are left
abbrev pub rows_fetched : State → ℕ → Name → ℕ → Result Effect Refusal
rows_fetched state session name rows = do
  lines ← cursor_named state session name
  Ok (effect (take rows lines) (length (take rows lines)) (with_cursor state session name (drop rows lines)))

abbrev pub cursor_closed : State → ℕ → Name → Result Effect Refusal
cursor_closed state session name = do
  _ ← cursor_named state session name
  Ok (counted 0 (with_cursors state session (names.remove (state.cursors session) name)))

-- every cursor of every session goes
abbrev pub without_cursors : State → State
without_cursors state = record state { cursors = no_cursors }

-- ---- the step

abbrev pub outcome : State → ℕ → CommandTree → Result Effect Refusal
outcome state session (define_route name start finish) = route_defined state name start finish
outcome state session (define_table kind name columns) = table_defined state kind name columns
outcome state session (define_referent route name position) = referent_defined state route name position
outcome state session (define_index name table column) = index_defined state name table column
outcome state session (define_view name query text) = view_defined state name query
outcome state session (define_alignment name pieces) = alignment_defined state name pieces
outcome state session (move_referent route name position) = referent_moved state route name position
outcome state session (drop_route name) = route_dropped state name
outcome state session (drop_table name) = table_dropped state name
outcome state session (drop_index name) = index_dropped state name
outcome state session (drop_view name) = view_dropped state name
outcome state session (drop_alignment name) = alignment_dropped state name
outcome state session (drop_referent route name) = referent_dropped state route name
outcome state session (insert table route place row) = row_inserted state table route place row
outcome state session (remove table window condition) = rows_removed state table window condition
outcome state session (translate route position method) = position_translated state route position method
outcome state session (select query method) = selected state query method
outcome state session (total query by summed) = totals_printed state query by summed
outcome state session (explain query) = plan_printed state query
outcome state session (open_cursor name query method) = cursor_opened state session name query method
outcome state session (fetch name rows) = rows_fetched state session name rows
outcome state session (close_cursor name) = cursor_closed state session name
outcome state session save = Ok (counted 0 state)
outcome state session reopen = Ok (counted 0 (without_cursors state))
