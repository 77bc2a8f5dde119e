-- Which definitions of a file are meant: each passes the checks and limits of its DEFINE line, beside the others. The order of
-- lists is that of names. A line's length is not looked at.
use Rattle.std.specs.Prelude.{◌≡◌, ◌≢◌, ◌<◌, ◌≤◌, ◌==◌, ℕ, IsTrue, Contains, List, length, map, if◌then◌else◌}
use Rattle.std.specs.FinMap as names
use Rattle.std.specs.List.{AllByRecursion}
use Rattle.rs_catalog_pages.specs.declared.directory_items.TheConstants.{INDEXES}
use Rattle.rs_catalog_pages.specs.Items.{AlignmentItem, CatalogueItems, ColumnItem, IndexItem, PieceItem, RouteItem, TableItem, ViewItem}
use Rattle.rs_facts.specs.Fact.{Name, Names, name_cmp}
use Rattle.rs_facts.specs.Query.{Column, Piece, RouteEnds}
use Rattle.rs_facts.specs.WellFormed.{IsPieceOn}
use Rattle.rs_machine.specs.declared.limits.TheConstants.{ALIGNMENTS, PIECES, ROUTES, TABLES, VIEWS}
use Rattle.rs_machine.specs.Lawful.{AreColumnsOfTable, IsRoute}
use Rattle.rs_page_owners.specs.Counts.{times}
use Rattle.rs_syntax.specs.Sound.{IsName}
use Rattle.rs_value.specs.declared.column.ColumnType.TheVariants as types

-- the items under their names
abbrev pub named_by : {X : Type 0} → (X → Name) → List X → List (Name × X)
named_by name_of items = map (λ item. (name_of item, item)) items

-- the names rise, so none is there twice
abbrev pub AreInOrder : {X : Type 0} → (X → Name) → List X → Type 0
AreInOrder name_of items = IsTrue (names.is_sorted name_cmp (named_by name_of items))

-- ---- routes

abbrev pub ends_of : RouteItem → RouteEnds
ends_of route = record { start = route.start; finish = route.finish }

abbrev pub ends_by_name : List RouteItem → List (Name × RouteEnds)
ends_by_name routes = map (λ route. (route.name, ends_of route)) routes

-- the machine's routes
abbrev pub routes_of : List RouteItem → Names RouteEnds
routes_of routes = names.from_sorted (ends_by_name routes)

abbrev pub route_numbers : List RouteItem → List ℕ
route_numbers routes = map (λ route. route.number) routes

-- at most as many as there may be, each with a number of its own below the limit
pub record AreRoutes (routes : List RouteItem) : Type 0 where
  pub in_order : AreInOrder (λ route. route.name) routes
  pub each : AllByRecursion (λ route. IsRoute route.name (ends_of route)) routes
  pub few : length routes ≤ ROUTES
  pub numbers_below : AllByRecursion (λ route. route.number < ROUTES) routes
  pub numbers_once : (number : ℕ) → times (route_numbers routes) number ≤ 1

-- ---- tables and indexes

abbrev pub column_of : ColumnItem → Column
column_of column = (column.name, (if column.type == 0 then types.Int else types.Text column.type))

abbrev pub columns_of : List ColumnItem → List Column
columns_of columns = map column_of columns

-- points or lines, with columns that a table may have
pub record IsTable (table : TableItem) : Type 0 where
  pub named : IsName table.name
  pub kind : table.kind ≤ 1
  pub columns : AreColumnsOfTable (columns_of table.columns)

pub record AreTables (tables : List TableItem) : Type 0 where
  pub in_order : AreInOrder (λ table. table.name) tables
  pub each : AllByRecursion IsTable tables
  pub few : length tables ≤ TABLES

-- of a column of a table that is there
pub record IsIndex (tables : List TableItem) (index : IndexItem) : Type 0 where
  pub named : IsName index.name
  pub table : TableItem
  pub there : Contains tables table
  pub number : table.number ≡ index.table
  pub column : index.column < length table.columns

pub record AreIndexes (tables : List TableItem) (indexes : List IndexItem) : Type 0 where
  pub in_order : AreInOrder (λ index. index.name) indexes
  pub each : AllByRecursion (IsIndex tables) indexes
  pub few : length indexes ≤ INDEXES

-- ---- views

-- its name is no table's; what its text says is asked by who reads it
pub record IsView (tables : List TableItem) (view : ViewItem) : Type 0 where
  pub named : IsName view.name
  pub no_table : AllByRecursion (λ table. table.name ≢ view.name) tables

pub record AreViews (tables : List TableItem) (views : List ViewItem) : Type 0 where
  pub in_order : AreInOrder (λ view. view.name) views
  pub each : AllByRecursion (IsView tables) views
  pub few : length views ≤ VIEWS

-- ---- alignments

abbrev pub named_piece : Name → Name → PieceItem → Piece
named_piece first second piece = record { from_route = first; from = piece.from; to = piece.to; onto_route = second; onto = piece.onto }

-- a part of a route that is there, carried to a place on a route that is there
pub record IsPiece (routes : List RouteItem) (piece : PieceItem) : Type 0 where
  pub first : RouteItem
  pub first_there : Contains routes first
  pub first_number : first.number ≡ piece.from_route
  pub second : RouteItem
  pub second_there : Contains routes second
  pub second_number : second.number ≡ piece.onto_route
  pub lies : IsPieceOn (routes_of routes) (named_piece first.name second.name piece)

pub record IsAlignment (routes : List RouteItem) (alignment : AlignmentItem) : Type 0 where
  pub named : IsName alignment.name
  pub some : 1 ≤ length alignment.pieces
  pub few : length alignment.pieces ≤ PIECES
  pub lie : AllByRecursion (IsPiece routes) alignment.pieces

pub record AreAlignments (routes : List RouteItem) (alignments : List AlignmentItem) : Type 0 where
  pub in_order : AreInOrder (λ alignment. alignment.name) alignments
  pub each : AllByRecursion (IsAlignment routes) alignments
  pub few : length alignments ≤ ALIGNMENTS

-- ---- all of them

pub record AreMeant (catalogue : CatalogueItems) : Type 0 where
  pub routes : AreRoutes catalogue.routes
  pub tables : AreTables catalogue.tables
  pub indexes : AreIndexes catalogue.tables catalogue.indexes
  pub views : AreViews catalogue.tables catalogue.views
  pub alignments : AreAlignments catalogue.routes catalogue.alignments
