-- What is looked at before a command takes effect. The first check that fails is the refusal.
use Rattle.std.specs.Prelude.{ℕ, ◌+◌, ◌-◌, Bool, true, false, ◌&&◌, ◌||◌, nat_le, nat_lt, List, [], ◌∷◌, Option, Some, None, Result, Ok, Err, map, if◌then◌else◌}
use Rattle.std.specs.List.{list_any}
use Rattle.std.specs.FinMap as names
use Rattle.rs_refusal.specs.declared.refusal.Refusal.{Refusal}
use Rattle.rs_refusal.specs.declared.refusal.Refusal.TheVariants.{NoSuchRoute, NoSuchName, OutsideTheRoute, EmptySpan, NoSuchCursor}
use Rattle.rs_methods.specs.Position.{PositionExpression, start_name, located}
use Rattle.rs_value.specs.declared.column.Kind.{Kind}
use Rattle.rs_value.specs.declared.column.Kind.TheVariants.{Point, Line}
use Rattle.rs_value.specs.declared.column.ColumnType.{ColumnType}
use Rattle.rs_value.specs.Row.{Row}
use Rattle.rs_value.specs.Fitting.{misfit}
use Rattle.rs_facts.specs.Fact.{Name, Names}
use Rattle.rs_facts.specs.Insert.{same_name}
use Rattle.rs_facts.specs.Query.{RouteEnds, Column, Table, Piece}
use Rattle.rs_planning.specs.Basis.{IndexedColumn}
use Rattle.rs_syntax.specs.Tree.{EventLocationTree, along, at_point, WindowTree, whole_route, part_of_route, PieceTree, QueryTree}
use Rattle.rs_machine.specs.State.{RowText, State, has}

-- one check after another, up to the first that fails
infixl 10 ◌>>=◌
abbrev pub ◌>>=◌ : {A B : Type 0} → Result A Refusal → (A → Result B Refusal) → Result B Refusal
(Ok x) >>= next = next x
(Err refusal) >>= next = Err refusal

-- the refusal, unless the test holds
abbrev pub unless : Bool → Refusal → Result (Unit {0}) Refusal
unless test refusal = if test then Ok tt else Err refusal

-- what stands under the name, or the refusal that there is none
abbrev pub found : {X : Type 0} → Option X → Refusal → Result X Refusal
found (Some x) refusal = Ok x
found None refusal = Err refusal

abbrev pub no_refusal : Option Refusal → Result (Unit {0}) Refusal
no_refusal None = Ok tt
no_refusal (Some refusal) = Err refusal

abbrev pub route_named : State → Name → Result RouteEnds Refusal
route_named state name = found (names.get state.routes name) NoSuchRoute

abbrev pub table_named : State → Name → Result Table Refusal
table_named state name = found (names.get state.tables name) NoSuchName

abbrev pub view_named : State → Name → Result QueryTree Refusal
view_named state name = found (names.get state.views name) NoSuchName

abbrev pub alignment_named : State → Name → Result (List Piece) Refusal
alignment_named state name = found (names.get state.alignments name) NoSuchName

abbrev pub index_named : State → Name → Result IndexedColumn Refusal
index_named state name = found (names.get state.indexes name) NoSuchName

-- a cursor of the session, as the lines that it has still to give
abbrev pub cursor_named : State → ℕ → Name → Result (List RowText) Refusal
cursor_named state session name = found (names.get (state.cursors session) name) NoSuchCursor

-- tables and views share their names
abbrev pub has_table_or_view : State → Name → Bool
has_table_or_view state name = has state.tables name || has state.views name

-- whether the route has a referent of this name; each has START
abbrev pub has_referent : State → Name → Name → Bool
has_referent state route name = same_name start_name name || has (state.referents route) name

-- where a position lies on the route
abbrev pub position_on : State → Name → RouteEnds → PositionExpression → Result ℕ Refusal
position_on state route ends position = located ends.start ends.finish (names.entries (state.referents route)) position

-- two positions: the first, then the second, then their order
abbrev pub span_on : State → Name → RouteEnds → PositionExpression → PositionExpression → Result (ℕ × ℕ) Refusal
span_on state route ends first second = do
  from ← position_on state route ends first
  to ← position_on state route ends second
  _ ← unless (nat_lt from to) EmptySpan
  Ok (from, to)

-- both points or both lines
abbrev pub same_kind : Kind → Kind → Bool
same_kind Line Line = true
same_kind Point Point = true
same_kind Line Point = false
same_kind Point Line = false

-- an event at one position is a point, and one along a span a line
abbrev pub location_kind : EventLocationTree → Kind
location_kind (along from to) = Line
location_kind (at_point position) = Point

-- where an event is put, from one thousandth on and below another
abbrev pub event_span : State → Name → RouteEnds → EventLocationTree → Result (ℕ × ℕ) Refusal
event_span state route ends (along from to) = span_on state route ends from to
event_span state route ends (at_point position) = do
  measure ← position_on state route ends position
  Ok (measure, measure + 1)

-- a window on the route that it names: a whole route has its end, at which a point may stand
abbrev pub window_span : State → RouteEnds → WindowTree → Result (ℕ × ℕ) Refusal
window_span state ends (whole_route route) = Ok (ends.start, ends.finish + 1)
window_span state ends (part_of_route route from to) = span_on state route ends from to

abbrev pub window_route : WindowTree → Name
window_route (whole_route route) = route
window_route (part_of_route route from to) = route

-- ---- pieces of alignments

-- from the route's start to its end
abbrev pub is_on_route : RouteEnds → ℕ → Bool
is_on_route ends k = nat_le ends.start k && nat_le k ends.finish

abbrev pub piece_of : PieceTree → Piece
piece_of piece = record { from_route = piece.from_route; from = piece.from; to = piece.to; onto_route = piece.onto_route; onto = piece.onto }

-- The part lies on the first route and all of it on the second; of a part that ends before it begins, the place alone at
-- which it is put.
abbrev pub piece_lies : RouteEnds → RouteEnds → PieceTree → Bool
piece_lies first second piece = is_on_route first piece.from && is_on_route first piece.to
    && is_on_route second piece.onto && is_on_route second (piece.onto + (piece.to - piece.from))

-- the route that it is of, the route onto which it is carried, its places, and then that some of it is carried
abbrev pub piece_checked : Names RouteEnds → PieceTree → Result Piece Refusal
piece_checked routes piece = do
  first ← found (names.get routes piece.from_route) NoSuchRoute
  second ← found (names.get routes piece.onto_route) NoSuchRoute
  _ ← unless (piece_lies first second piece) OutsideTheRoute
  _ ← unless (nat_lt piece.from piece.to) EmptySpan
  Ok (piece_of piece)

-- each piece in turn
abbrev pub pieces_checked : Names RouteEnds → List PieceTree → Result (List Piece) Refusal
pieces_checked routes [] = Ok []
pieces_checked routes (piece ∷ pieces) = do
  first ← piece_checked routes piece
  others ← pieces_checked routes pieces
  Ok (first ∷ others)

-- ---- names and columns

abbrev pub some_name_twice : List Name → Bool
some_name_twice [] = false
some_name_twice (name ∷ more) = list_any (same_name name) more || some_name_twice more

abbrev pub column_names : List Column → List Name
column_names columns = map (λ column. column.0) columns

abbrev pub column_types : List Column → List ColumnType
column_types columns = map (λ column. column.1) columns

-- the values are as many as the columns, of their types, and short enough
abbrev pub row_fits : List Column → Row → Result (Unit {0}) Refusal
row_fits columns row = no_refusal (misfit (column_types columns) row)
