-- The state of the machine that definitions make while nothing else is said: it has no view, no referent, no fact and no cursor.
use Rattle.std.specs.Prelude.{◌≡◌, ◌≤◌, ◌==◌, ◌&&◌, ℕ, nat_lt, false, List, [], ◌∷◌, length, map, if◌then◌else◌}
use Rattle.std.specs.FinMap as names
use Rattle.std.specs.List.{AllByRecursion}
pub use Rattle.rs_catalog_pages.specs.Items.{kind_of}
use Rattle.rs_catalog_pages.specs.Items.{AlignmentItem, CatalogueItems, IndexItem, PieceItem, RouteItem, TableItem}
use Rattle.rs_facts.specs.Fact.{Name, Names, no_facts}
use Rattle.rs_facts.specs.Query.{Piece, Table}
use Rattle.rs_machine.specs.declared.limits.TheConstants.{VIEWS}
use Rattle.rs_machine.specs.State.{State, has, no_cursors, no_referents}
use Rattle.rs_planning.specs.Basis.{IndexedColumn}
use Rattle.rs_syntax.specs.Sound.{IsName}
use Rattle.rs_catalog_meaning.specs.Meaning.{AreInOrder, columns_of, named_piece, route_numbers, routes_of}
use Rattle.rs_catalog_meaning.specs.Places.{AreGivenOnce}

-- the name of the route with this number
abbrev pub name_with : List RouteItem → ℕ → Name
name_with [] number = []
name_with (route ∷ routes) number = if route.number == number then route.name else name_with routes number

abbrev pub piece_of : List RouteItem → PieceItem → Piece
piece_of routes piece = named_piece (name_with routes piece.from_route) (name_with routes piece.onto_route) piece

abbrev pub named_alignment : List RouteItem → AlignmentItem → Name × List Piece
named_alignment routes alignment = (alignment.name, map (piece_of routes) alignment.pieces)

abbrev pub alignments_of : List RouteItem → List AlignmentItem → Names (List Piece)
alignments_of routes alignments = names.from_sorted (map (named_alignment routes) alignments)

abbrev pub named_table : TableItem → Name × Table
named_table table = (table.name, record { kind = kind_of table.kind; columns = columns_of table.columns; facts = no_facts })

abbrev pub tables_of : List TableItem → Names Table
tables_of tables = names.from_sorted (map named_table tables)

-- the name of the table with this number and a column at this place; in a file one table has a number
abbrev pub table_with : List TableItem → ℕ → ℕ → Name
table_with [] number column = []
table_with (table ∷ tables) number column =
    if (table.number == number) && nat_lt column (length table.columns) then table.name else table_with tables number column

abbrev pub column_indexed : List TableItem → IndexItem → IndexedColumn
column_indexed tables index = record { table = table_with tables index.table index.column; column = index.column }

abbrev pub named_index : List TableItem → IndexItem → Name × IndexedColumn
named_index tables index = (index.name, column_indexed tables index)

abbrev pub indexes_of : List TableItem → List IndexItem → Names IndexedColumn
indexes_of tables indexes = names.from_sorted (map (named_index tables) indexes)

abbrev pub state_of : CatalogueItems → State
state_of catalogue = record {
  routes = routes_of catalogue.routes;
  referents = no_referents;
  tables = tables_of catalogue.tables;
  views = names.empty;
  alignments = alignments_of catalogue.routes catalogue.alignments;
  indexes = indexes_of catalogue.tables catalogue.indexes;
  changes = 0;
  cursors = no_cursors;
}

-- what the state doesn't say of the definitions: the order of each list, the numbers of routes, the codes of kinds, and the
-- names of views
pub record AreListed (catalogue : CatalogueItems) : Type 0 where
  pub routes : AreInOrder (λ route. route.name) catalogue.routes
  pub route_numbers : AreGivenOnce (route_numbers catalogue.routes)
  pub tables : AreInOrder (λ table. table.name) catalogue.tables
  pub kinds : AllByRecursion (λ table. table.kind ≤ 1) catalogue.tables
  pub indexes : AreInOrder (λ index. index.name) catalogue.indexes
  pub views : AreInOrder (λ view. view.name) catalogue.views
  pub view_names : AllByRecursion (λ view. IsName view.name × (has (state_of catalogue).tables view.name ≡ false)) catalogue.views
  pub few_views : length catalogue.views ≤ VIEWS
  pub alignments : AreInOrder (λ alignment. alignment.name) catalogue.alignments
