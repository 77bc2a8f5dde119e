-- The commands of each section of a dump, by what a store has of them.
use Rattle.std.specs.Prelude.{ℕ, List, [], flat_map, map, Option, Some, None}
use Rattle.std.specs.FinMap as names
use Rattle.rs_catalog.specs.Definitions.{Definitions, IndexItem, Numbered, RouteItem, TableItem}
use Rattle.rs_catalog.specs.Referents.{HeldReferents, referents_on}
use Rattle.rs_dump_laws.specs.Dump.{location_of, route_command}
use Rattle.rs_dump.specs.Shown.{Shown}
use Rattle.rs_catalog.specs.declared.entries.NamedRoute.{NamedRoute}
use Rattle.rs_dump.specs.declared.held.NamedTable.{NamedTable}
use Rattle.rs_facts.specs.Fact.{Name}
use Rattle.rs_facts.specs.Query.{Column, column_at}
use Rattle.rs_facts.specs.Runs.{Stretch}
use Rattle.rs_methods.specs.Position.{absolute}
use Rattle.rs_syntax.specs.Tree.{CommandTree, define_index, define_referent, define_table, insert}
use Rattle.rs_value.specs.declared.column.Kind.{Kind}

-- ---- definitions, in the order of their names

abbrev pub route_of : Name × RouteItem → CommandTree
route_of route = route_command (route.0, route.1.ends)

abbrev pub route_commands : Definitions → List CommandTree
route_commands definitions = map route_of (names.entries definitions.routes)

abbrev pub table_of : Name × TableItem → CommandTree
table_of table = define_table table.1.kind table.0 table.1.columns

abbrev pub table_commands : Definitions → List CommandTree
table_commands definitions = map table_of (names.entries definitions.tables)

-- the name of the column that an index is of
abbrev pub columns_in : Option TableItem → List Column
columns_in (Some table) = table.columns
columns_in None = []

abbrev pub indexed_column : Definitions → IndexItem → Name
indexed_column definitions index = (column_at (columns_in (names.get definitions.tables index.table)) index.column).0

abbrev pub index_of : Definitions → Name × IndexItem → CommandTree
index_of definitions index = define_index index.0 index.1.table (indexed_column definitions index.1)

abbrev pub index_commands : Definitions → List CommandTree
index_commands definitions = map (index_of definitions) (names.entries definitions.indexes)

-- ---- the referents of each route, in the order of their names

abbrev pub referents_of_route : Name → List (Name × ℕ) → List CommandTree
referents_of_route route referents = map (λ referent. define_referent route referent.0 (absolute referent.1)) referents

abbrev pub referents_beside : Numbered HeldReferents → Name × RouteItem → List CommandTree
referents_beside held route = referents_of_route route.0 (names.entries (referents_on held route.1.number))

abbrev pub referent_commands : Definitions → Numbered HeldReferents → List CommandTree
referent_commands definitions held = flat_map (referents_beside held) (names.entries definitions.routes)

-- ---- rows of a table on a route

abbrev pub rows_on : Name → Name → Kind → List Stretch → List CommandTree
rows_on table route kind spans = map (λ span. insert table route (location_of kind span) span.row) spans

-- ---- tables and routes by their names

abbrev pub named_route : Name × RouteItem → Name × ℕ
named_route entry = (entry.0, entry.1.number)

abbrev pub route_seen : NamedRoute → Name × ℕ
route_seen route = (route.name.bytes, route.route.number)

abbrev pub named_table : Name × TableItem → Name × (ℕ × Kind)
named_table entry = (entry.0, (entry.1.number, entry.1.kind))

abbrev pub table_seen : NamedTable → Name × (ℕ × Kind)
table_seen table = (table.name.bytes, (table.number, table.kind))

-- ---- the rows of many tables on many routes

abbrev pub rows_of_table : Name × (ℕ × Kind) → List (Name × ℕ) → Shown → List CommandTree
rows_of_table table routes shown = flat_map (λ route. rows_on table.0 route.0 table.1.1 (shown table.1.0 table.1.1 route.1)) routes

abbrev pub row_commands : List (Name × (ℕ × Kind)) → List (Name × ℕ) → Shown → List CommandTree
row_commands tables routes shown = flat_map (λ table. rows_of_table table routes shown) tables
