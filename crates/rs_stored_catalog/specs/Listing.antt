-- The definitions that the catalogue in memory has, as a file lists them.
use Rattle.std.specs.Prelude.{ℕ, List, Option, Some, None, map}
use Rattle.std.specs.FinMap as names
use Rattle.rs_catalog.specs.Definitions as catalog
use Rattle.rs_catalog.specs.Definitions.{Definitions}
use Rattle.rs_catalog_pages.specs.Items.{AlignmentItem, CatalogueItems, ColumnItem, IndexItem, PieceItem, RouteItem, TableItem, ViewItem}
use Rattle.rs_facts.specs.Fact.{Name, Names}
use Rattle.rs_facts.specs.Query.{Column, Piece}
use Rattle.rs_value.specs.declared.column.ColumnType.{ColumnType}
use Rattle.rs_value.specs.declared.column.ColumnType.TheVariants.{Int, Text}
use Rattle.rs_value.specs.declared.column.Kind.{Kind}
use Rattle.rs_value.specs.declared.column.Kind.TheVariants.{Line, Point}

abbrev pub listed_route : Name × catalog.RouteItem → RouteItem
listed_route entry = record {
  name = entry.0;
  number = entry.1.number;
  start = entry.1.ends.start;
  finish = entry.1.ends.finish;
  born = entry.1.born;
}

-- 0: points, 1: lines
abbrev pub kind_code : Kind → ℕ
kind_code Point = 0
kind_code Line = 1

-- 0: numbers; else the greatest length of a text
abbrev pub type_code : ColumnType → ℕ
type_code Int = 0
type_code (Text most) = most

abbrev pub listed_column : Column → ColumnItem
listed_column column = record { name = column.0; type = type_code column.1 }

abbrev pub listed_table : Name × catalog.TableItem → TableItem
listed_table entry = record {
  name = entry.0;
  number = entry.1.number;
  kind = kind_code entry.1.kind;
  columns = map listed_column entry.1.columns;
}

-- its table by number
abbrev pub listed_index : Name × catalog.IndexItem → IndexItem
listed_index entry = record { name = entry.0; number = entry.1.number; table = entry.1.table_number; column = entry.1.column }

abbrev pub listed_view : Name × catalog.ViewItem → ViewItem
listed_view entry = record { name = entry.0; text = entry.1.text }

-- the number of the route that was found; 0 where none was
abbrev pub number_found : Option catalog.RouteItem → ℕ
number_found None = 0
number_found (Some item) = item.number

-- its routes by number
abbrev pub listed_piece : Names catalog.RouteItem → Piece → PieceItem
listed_piece routes piece = record {
  from_route = number_found (names.get routes piece.from_route);
  from = piece.from;
  to = piece.to;
  onto_route = number_found (names.get routes piece.onto_route);
  onto = piece.onto;
}

abbrev pub listed_alignment : Names catalog.RouteItem → Name × List Piece → AlignmentItem
listed_alignment routes entry = record { name = entry.0; pieces = map (listed_piece routes) entry.1 }

-- all of them, each list in the order of names
abbrev pub listing_of : Definitions → CatalogueItems
listing_of definitions = record {
  routes = map listed_route (names.entries definitions.routes);
  tables = map listed_table (names.entries definitions.tables);
  indexes = map listed_index (names.entries definitions.indexes);
  views = map listed_view (names.entries definitions.views);
  alignments = map (listed_alignment definitions.routes) (names.entries definitions.alignments);
}
