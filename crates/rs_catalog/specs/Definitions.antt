-- What the catalogue keeps: routes, tables, indexes, views and alignments by name, the first three with their numbers.
use Rattle.std.specs.Prelude.{◌≡◌, ℕ, ◌<◌, ◌≤◌, List, length, map, Option, Some, None}
use Rattle.std.specs.Ordering.{nat_cmp}
use Rattle.std.specs.FinMap as names
use Rattle.rs_measure.specs.declared.measure.TheConstants.{GREATEST_MEASURE}
use Rattle.rs_value.specs.declared.column.Kind.{Kind}
use Rattle.rs_value.specs.declared.column.TheConstants.{COLUMNS}
use Rattle.rs_facts.specs.Fact.{Name, Names, Places, Facts, none}
use Rattle.rs_facts.specs.Query.{RouteEnds, Column, Table, World, Piece}
use Rattle.rs_facts.specs.WellFormed.{ArePiecesOn}
use Rattle.rs_facts.specs.Runs.{Stretch}
use Rattle.rs_facts.specs.Spans.{places_of}
use Rattle.rs_planning.specs.Basis.{IndexedColumn}
use Rattle.rs_syntax.specs.declared.queries.Query.{Query}
use Rattle.rs_syntax.specs.QueryView.{query_tree}
use Rattle.rs_syntax.specs.View.{piece_tree}
use Rattle.rs_syntax.specs.declared.commands.Piece as code
use Rattle.rs_syntax.specs.Tree.{QueryTree}
use Rattle.rs_machine.specs.declared.limits.TheConstants.{ROUTES, TABLES, INDEXES}
use Rattle.rs_machine.specs.Checks.{piece_of}
use Rattle.rs_machine.specs.State.{Cursors, State}
use Rattle.rs_catalog.specs.Names.{map_values}

-- what stands under numbers
abbrev pub Numbered : Type 0 → Type 0
Numbered X = names.FinMap nat_cmp X

-- a route: its number, the version from which on it is seen, and its ends
pub record RouteItem : Type 0 where
  pub number : ℕ
  pub born : ℕ
  pub ends : RouteEnds

pub record TableItem : Type 0 where
  pub number : ℕ
  pub kind : Kind
  pub columns : List Column

-- an index: its number, the table by its name and its number, and the place of the column
pub record IndexItem : Type 0 where
  pub number : ℕ
  pub table : Name
  pub table_number : ℕ
  pub column : ℕ

-- a view: its query, and the query's text as it was written
pub record ViewItem : Type 0 where
  pub query : Query
  pub text : List ℕ

pub record Definitions : Type 0 where
  pub routes : Names RouteItem
  pub tables : Names TableItem
  pub indexes : Names IndexItem
  pub views : Names ViewItem
  pub alignments : Names (List Piece)

abbrev pub no_definitions : Definitions
no_definitions = record { routes = names.empty; tables = names.empty; indexes = names.empty; views = names.empty; alignments = names.empty }

abbrev pub routes_of : Definitions → Names RouteEnds
routes_of definitions = map_values (λ item. item.ends) definitions.routes

-- pieces of the code
abbrev pub pieces_of : List code.Piece → List Piece
pieces_of pieces = map (λ piece. piece_of (piece_tree piece)) pieces

-- ---- numbers

-- nothing under a name has the number
abbrev pub IsFree : {X : Type 0} → (X → ℕ) → Names X → ℕ → Type 0
IsFree {X} number_of items n = (name : Name) (item : X) → names.get items name ≡ Some item → number_of item ≡ n → ⊥

-- the least number that nothing has
pub record IsLeastFree {X : Type 0} (number_of : X → ℕ) (items : Names X) (n : ℕ) : Type 0 where
  pub free : IsFree number_of items n
  pub least : (m : ℕ) → m < n → IsFree number_of items m → ⊥

-- each has a number of its own
abbrev pub AreNumbered : {X : Type 0} → (X → ℕ) → Names X → Type 0
AreNumbered {X} number_of items = (a b : Name) (x y : X) → names.get items a ≡ Some x → names.get items b ≡ Some y → number_of x ≡ number_of y → a ≡ b

-- a table of this name has this number and a column at this place
pub record IsColumnOf (tables : Names TableItem) (name : Name) (number column : ℕ) : Type 0 where
  pub table : TableItem
  pub there : names.get tables name ≡ Some table
  pub numbered : table.number ≡ number
  pub below : column < length table.columns

-- What is so of every catalogue: numbers are distinct and below their limits, each route's ends are measures, the first
-- below the second, a table has no more columns than a row has room for, an index is of a column that is there, and the
-- pieces of alignments lie on routes that are there.
pub record AreDefinitions (definitions : Definitions) : Type 0 where
  pub route_numbers : AreNumbered (λ item. item.number) definitions.routes
  pub table_numbers : AreNumbered (λ item. item.number) definitions.tables
  pub index_numbers : AreNumbered (λ item. item.number) definitions.indexes
  pub routes : (name : Name) (item : RouteItem) → names.get definitions.routes name ≡ Some item
      → (item.number < ROUTES) × (item.ends.start < item.ends.finish) × (item.ends.finish ≤ GREATEST_MEASURE)
  pub tables : (name : Name) (item : TableItem) → names.get definitions.tables name ≡ Some item
      → (item.number < TABLES) × (length item.columns ≤ COLUMNS)
  pub indexes : (name : Name) (item : IndexItem) → names.get definitions.indexes name ≡ Some item
      → (item.number < INDEXES) × IsColumnOf definitions.tables item.table item.table_number item.column
  pub alignments : (name : Name) (pieces : List Piece) → names.get definitions.alignments name ≡ Some pieces → ArePiecesOn (routes_of definitions) pieces

-- ---- the state

abbrev pub views_of : Definitions → Names QueryTree
views_of definitions = map_values (λ item. query_tree item.query) definitions.views

abbrev pub indexed_column : IndexItem → IndexedColumn
indexed_column item = record { table = item.table; column = item.column }

abbrev pub indexes_of : Definitions → Names IndexedColumn
indexes_of definitions = map_values indexed_column definitions.indexes

-- what a route has, by its number; nothing where there is no such route
abbrev pub on_numbered : {X : Type 0} → X → (ℕ → X) → Option RouteItem → X
on_numbered nothing by_number None = nothing
on_numbered nothing by_number (Some item) = by_number item.number

abbrev pub no_places : Places
no_places k = none

-- a table's rows on each route, from its spans by the routes' numbers
unfoldable pub facts_from : Names RouteItem → (ℕ → List Stretch) → Facts
facts_from routes spans_on route = on_numbered no_places (λ number. places_of (spans_on number)) (names.get routes route)

abbrev pub table_from : Names RouteItem → (ℕ → ℕ → List Stretch) → TableItem → Table
table_from routes spans_on item = record { kind = item.kind; columns = item.columns; facts = facts_from routes (spans_on item.number) }

unfoldable pub tables_from : Definitions → (ℕ → ℕ → List Stretch) → Names Table
tables_from definitions spans_on = map_values (table_from definitions.routes spans_on) definitions.tables

unfoldable pub referents_from : Definitions → (ℕ → Names ℕ) → Name → Names ℕ
referents_from definitions referents_on route = on_numbered names.empty referents_on (names.get definitions.routes route)

-- what the state has beside: how many changes were accepted, and the cursors of each session
pub record Rest : Type 0 where
  pub changes : ℕ
  pub cursors : ℕ → Cursors

-- The state of the machine: the definitions, for each route's number its referents, for each table's number and
-- route's number the spans, and the rest.
abbrev pub state_from : Definitions → (ℕ → Names ℕ) → (ℕ → ℕ → List Stretch) → Rest → State
state_from definitions referents_on spans_on rest = record {
  routes = routes_of definitions;
  referents = referents_from definitions referents_on;
  tables = tables_from definitions spans_on;
  views = views_of definitions;
  alignments = definitions.alignments;
  indexes = indexes_of definitions;
  changes = rest.changes;
  cursors = rest.cursors;
}

-- what a query of it is asked of
abbrev pub world_from : Definitions → (ℕ → ℕ → List Stretch) → World
world_from definitions spans_on = record { routes = routes_of definitions; tables = tables_from definitions spans_on }
