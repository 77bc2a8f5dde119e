-- What is so of every state that the machine comes to.
--
-- A law says so: the state at the beginning is lawful, and whatever lines are answered leave it lawful.
use Rattle.std.specs.Prelude.{◌≡◌, ◌≢◌, ℕ, ◌<◌, ◌≤◌, true, false, IsTrue, List, length, Some, Ok}
use Rattle.std.specs.List.{AllByRecursion}
use Rattle.std.specs.FinMap as names
use Rattle.rs_measure.specs.declared.measure.TheConstants.{GREATEST_MEASURE}
use Rattle.rs_methods.specs.Position.{PositionExpression, absolute, beyond, before, interpolative, start_name}
use Rattle.rs_value.specs.declared.column.Kind.{Kind}
use Rattle.rs_value.specs.declared.column.Kind.TheVariants.{Point, Line}
use Rattle.rs_value.specs.declared.column.TheConstants.{COLUMNS, ROW_BYTES}
use Rattle.rs_value.specs.Encoding.{row_width}
use Rattle.rs_value.specs.Row.{Row}
use Rattle.rs_value.specs.Values.{IsRowOf}
use Rattle.rs_facts.specs.Fact.{Name, Names, contains}
pub use Rattle.rs_facts.specs.Fact.{AreDistinct}
use Rattle.rs_facts.specs.Query.{RouteEnds, Column, Table, Piece, Query}
use Rattle.rs_planning.specs.Basis.{IndexedColumn}
use Rattle.rs_facts.specs.WellFormed.{ArePiecesOn}
use Rattle.rs_syntax.specs.Sound.{IsName, AreColumns, IsQuery}
use Rattle.rs_syntax.specs.Tree.{WindowTree, whole_route, part_of_route, QueryTree, named, filtered, dissolved, renamed, overlaid, covered, merged, subtracted, windowed, transformed, gapped}
use Rattle.rs_machine.specs.declared.limits.TheConstants.{ROUTES, REFERENTS, TABLES, INDEXES, VIEWS, ALIGNMENTS, PIECES, NODES, DEPTH, CHANGES, SESSIONS, CURSORS}
use Rattle.rs_machine.specs.State.{Cursors, State, has}
use Rattle.rs_machine.specs.Checks.{has_table_or_view, has_referent, column_names, column_types, window_route}
use Rattle.rs_machine.specs.Checking.{nodes_checked}
use Rattle.rs_machine.specs.Opening.{names_in, alignments_in, windows_in, opened, nodes, depth, AreInOrder}
use Rattle.rs_machine.specs.ReferentNames.{AreNamed}

-- what stands under each name is so
abbrev pub Each : {X : Type 0} → Names X → (Name → X → Type 0) → Type 0
Each {X} things IsSo = (name : Name) (thing : X) → names.get things name ≡ Some thing → IsSo name thing

-- ---- routes

-- a name, and two measures, the start below the end
pub record IsRoute (name : Name) (ends : RouteEnds) : Type 0 where
  pub named : IsName name
  pub start_is_measure : ends.start ≤ GREATEST_MEASURE
  pub end_is_measure : ends.finish ≤ GREATEST_MEASURE
  pub start_below_end : ends.start < ends.finish

-- a route of this name is there, and this is so of its ends
pub record OnRoute (routes : Names RouteEnds) (route : Name) (IsSo : RouteEnds → Type 0) : Type 0 where
  pub ends : RouteEnds
  pub there : names.get routes route ≡ Some ends
  pub is_so : IsSo ends

-- from the route's start to its end
abbrev pub IsPlaceOf : ℕ → RouteEnds → Type 0
IsPlaceOf measure ends = (ends.start ≤ measure) × (measure ≤ ends.finish)

-- where a row may hold: a line from the route's start on and below its end, a point up to its end
abbrev pub MayHoldAt : Kind → ℕ → RouteEnds → Type 0
MayHoldAt Line k ends = (ends.start ≤ k) × (k < ends.finish)
MayHoldAt Point k ends = IsPlaceOf k ends

-- ---- referents

-- a referent beside START lies on its route
pub record IsReferent (routes : Names RouteEnds) (route name : Name) (measure : ℕ) : Type 0 where
  pub not_start : name ≢ start_name
  pub lies : OnRoute routes route (IsPlaceOf measure)

-- ---- tables

-- from 1 to COLUMNS columns, each with a name of its own and a type, whose rows take at most ROW_BYTES in a record
pub record AreColumnsOfTable (columns : List Column) : Type 0 where
  pub some : 1 ≤ length columns
  pub few : length columns ≤ COLUMNS
  pub narrow : row_width (column_types columns) ≤ ROW_BYTES
  pub sound : AreColumns columns
  pub distinct : AreDistinct (column_names columns)

-- a fact of a table: a row of the table's columns that may hold there
pub record IsFactOf (routes : Names RouteEnds) (table : Table) (route : Name) (k : ℕ) (row : Row) : Type 0 where
  pub fits : IsRowOf (column_types table.columns) row
  pub lies : OnRoute routes route (MayHoldAt table.kind k)

pub record IsTable (routes : Names RouteEnds) (name : Name) (table : Table) : Type 0 where
  pub named : IsName name
  pub columns : AreColumnsOfTable table.columns
  pub facts : (route : Name) (k : ℕ) (row : Row) → contains (table.facts route k) row ≡ true → IsFactOf routes table route k row

-- ---- views

-- each of these is a table or a view
abbrev pub AreKnown : State → List Name → Type 0
AreKnown state names = AllByRecursion (λ name. IsTrue (has_table_or_view state name)) names

-- the referent that the position names, if any, is there
abbrev pub HasItsReferent : State → Name → PositionExpression → Type 0
HasItsReferent state route (absolute measure) = Unit {0}
HasItsReferent state route (beyond name measure) = IsTrue (has_referent state route name)
HasItsReferent state route (before name measure) = IsTrue (has_referent state route name)
HasItsReferent state route (interpolative part) = Unit {0}

-- the window's route is there, and so are the referents that it names
abbrev pub IsWindowOf : State → WindowTree → Type 0
IsWindowOf state (whole_route route) = IsTrue (has state.routes route)
IsWindowOf state (part_of_route route from to) = IsTrue (has state.routes route) × HasItsReferent state route from × HasItsReferent state route to

-- each of these is an alignment
abbrev pub AreAlignments : State → List Name → Type 0
AreAlignments state names = AllByRecursion (λ name. IsTrue (has state.alignments name)) names

-- A view: its name is no table's, what it names is there, and with its views opened it is not too large.
pub record IsView (state : State) (name : Name) (query : QueryTree) : Type 0 where
  pub named : IsName name
  pub sound : IsQuery query
  pub no_table : has state.tables name ≡ false
  pub known : AreKnown state (names_in query)
  pub alignments : AreAlignments state (alignments_in query)
  pub windows : AllByRecursion (IsWindowOf state) (windows_in query)
  pub few_nodes : nodes (opened state.views query) ≤ NODES
  pub not_deep : depth (opened state.views query) ≤ DEPTH

-- the same query, with each window as wide as its route
abbrev pub widened : QueryTree → QueryTree
widened (named name) = named name
widened (filtered query condition) = filtered (widened query) condition
widened (dissolved query columns) = dissolved (widened query) columns
widened (renamed query from to) = renamed (widened query) from to
widened (overlaid a b) = overlaid (widened a) (widened b)
widened (covered a b) = covered (widened a) (widened b)
widened (merged a b) = merged (widened a) (widened b)
widened (subtracted a b) = subtracted (widened a) (widened b)
widened (windowed query window) = windowed (widened query) (whole_route (window_route window))
widened (transformed query alignment) = transformed (widened query) alignment
widened (gapped query) = gapped (widened query)

-- A view that passes the checks of its DEFINE line, but that its windows lie on their routes: referents may have moved since.
pub record IsViewMeant (state : State) (name : Name) (query : QueryTree) : Type 0 where
  pub is : IsView state name query
  pub checked : Query
  pub passes : nodes_checked state (widened (opened state.views query)) ≡ Ok checked

-- each view is meant, and names only views before it
pub record AreViewsMeant (state : State) : Type 0 where
  pub each : Each state.views (IsViewMeant state)
  pub order : AreInOrder state.views

-- ---- alignments

-- from 1 to PIECES pieces, each of a part of a route that is there, carried to a place on a route that is there
pub record IsAlignment (routes : Names RouteEnds) (name : Name) (pieces : List Piece) : Type 0 where
  pub named : IsName name
  pub some : 1 ≤ length pieces
  pub few : length pieces ≤ PIECES
  pub lie : ArePiecesOn routes pieces

-- ---- indexes

-- an index is of a column of a table that is there
pub record IsIndex (tables : Names Table) (name : Name) (index : IndexedColumn) : Type 0 where
  pub named : IsName name
  pub table : Table
  pub there : names.get tables index.table ≡ Some table
  pub column : index.column < length table.columns

-- ---- cursors

-- A session has at most CURSORS cursors, each under a name; only sessions below SESSIONS have any.
pub record AreCursors (session : ℕ) (cursors : Cursors) : Type 0 where
  pub named : Each cursors (λ name lines. IsName name)
  pub few : names.len cursors ≤ CURSORS
  pub none_beyond : SESSIONS ≤ session → names.len cursors ≡ 0

-- ---- the state

-- how many there may be
pub record IsWithinLimits (state : State) : Type 0 where
  pub routes : names.len state.routes ≤ ROUTES
  pub referents : (route : Name) → names.len (state.referents route) ≤ REFERENTS
  pub tables : names.len state.tables ≤ TABLES
  pub indexes : names.len state.indexes ≤ INDEXES
  pub views : names.len state.views ≤ VIEWS
  pub alignments : names.len state.alignments ≤ ALIGNMENTS
  pub changes : state.changes ≤ CHANGES

-- What is so of every state.
pub record IsLawful (state : State) : Type 0 where
  pub routes : Each state.routes IsRoute
  pub referents_named : AreNamed state
  pub referents : (route : Name) → Each (state.referents route) (IsReferent state.routes route)
  pub tables : Each state.tables (IsTable state.routes)
  pub views : AreViewsMeant state
  pub alignments : Each state.alignments (IsAlignment state.routes)
  pub indexes : Each state.indexes (IsIndex state.tables)
  pub cursors : (session : ℕ) → AreCursors session (state.cursors session)
  pub limits : IsWithinLimits state
