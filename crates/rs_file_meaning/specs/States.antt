-- The state of the machine that the contents of a file stand for.
--
-- Definitions are as they are now, but for routes, of which a version sees those that were born by it. Facts and referents are
-- those that the version sees. A file has no cursor.
use Rattle.std.specs.Prelude.{◌≡◌, ℕ, List, map}
use Rattle.std.specs.FinMap as names
use Rattle.std.specs.List.{AllZip}
use Rattle.rs_catalog.specs.Definitions as catalog
use Rattle.rs_catalog.specs.Definitions.{Definitions, state_from, table_from}
use Rattle.rs_catalog.specs.Names.{map_values}
use Rattle.rs_catalog_meaning.specs.Meaning.{columns_of, ends_of}
use Rattle.rs_catalog_meaning.specs.Stating.{alignments_of, kind_of, table_with}
use Rattle.rs_catalog_pages.specs.Items.{CatalogueItems, IndexItem, RouteItem, TableItem, ViewItem}
use Rattle.rs_facts.specs.Fact.{Name, Names}
use Rattle.rs_facts.specs.Query.{Table, World}
use Rattle.rs_file.specs.Contents.{Contents}
use Rattle.rs_machine.specs.Request.{Asks, command}
use Rattle.rs_machine.specs.State.{State, no_cursors}
use Rattle.rs_syntax.specs.QueryView.{query_tree}
use Rattle.rs_syntax.specs.Tree.{QueryTree, define_view}
use Rattle.rs_file_meaning.specs.Seen.{born_by, referents_seen, spans_seen}

-- ---- definitions by their names

abbrev pub named_route : RouteItem → Name × catalog.RouteItem
named_route route = (route.name, record { number = route.number; born = route.born; ends = ends_of route })

abbrev pub routes_named : List RouteItem → Names catalog.RouteItem
routes_named routes = names.from_sorted (map named_route routes)

abbrev pub named_table : TableItem → Name × catalog.TableItem
named_table table = (table.name, record { number = table.number; kind = kind_of table.kind; columns = columns_of table.columns })

abbrev pub tables_named : List TableItem → Names catalog.TableItem
tables_named tables = names.from_sorted (map named_table tables)

abbrev pub named_index : List TableItem → IndexItem → Name × catalog.IndexItem
named_index tables index = (
  index.name,
  record {
    number = index.number;
    table = table_with tables index.table index.column;
    table_number = index.table;
    column = index.column;
  },
)

abbrev pub indexes_named : List TableItem → List IndexItem → Names catalog.IndexItem
indexes_named tables indexes = names.from_sorted (map (named_index tables) indexes)

-- some line of a session defines a view of this name, and its text says this query
pub record HasLine (name : Name) (query : QueryTree) (text : List ℕ) : Type 0 where
  pub line : List ℕ
  pub session : ℕ
  pub asks : Asks line (command session (define_view name query text))

-- the view is kept with the text that its item has, and some line defines it so
pub record IsViewOf (view : ViewItem) (entry : Name × catalog.ViewItem) : Type 0 where
  pub named : entry.0 ≡ view.name
  pub text : entry.1.text ≡ view.text
  pub defined : HasLine view.name (query_tree entry.1.query) view.text

-- The definitions that a version sees in a catalogue. The query of a view follows from its text, which is said by a law.
pub record AreDefinitionsAt (version : ℕ) (catalogue : CatalogueItems) (definitions : Definitions) : Type 0 where
  pub routes : definitions.routes ≡ routes_named (born_by version catalogue.routes)
  pub tables : definitions.tables ≡ tables_named catalogue.tables
  pub indexes : definitions.indexes ≡ indexes_named catalogue.tables catalogue.indexes
  pub views : AllZip IsViewOf catalogue.views (names.entries definitions.views)
  pub alignments : definitions.alignments ≡ alignments_of catalogue.routes catalogue.alignments

-- ---- states and worlds

-- the state of a version: its routes, facts and referents beside the other definitions as they are now
pub record IsStateAt (version : ℕ) (contents : Contents) (state : State) : Type 0 where
  pub definitions : Definitions
  pub are : AreDefinitionsAt version contents.definitions definitions
  pub is : state ≡ state_from definitions (referents_seen contents version) (spans_seen contents version) (record { changes = version; cursors = no_cursors })

-- the state of the version that was accepted last
abbrev pub IsState : Contents → State → Type 0
IsState contents state = IsStateAt contents.directory.accepted contents state

abbrev pub table_at : Contents → ℕ → catalog.TableItem → Table
table_at contents version = table_from (routes_named (born_by version contents.definitions.routes)) (spans_seen contents version)

-- what a query is asked of at a version
abbrev pub world_at : Contents → ℕ → World
world_at contents version = record {
  routes = map_values (λ (item : catalog.RouteItem). item.ends) (routes_named (born_by version contents.definitions.routes));
  tables = map_values (table_at contents version) (tables_named contents.definitions.tables);
}
