-- What the items of a catalogue and a directory say.
use Rattle.std.specs.Prelude.{map, string_bytes}
use Rattle.rs_catalog_pages.specs.Items.{RouteItem, ColumnItem, TableItem, IndexItem, ViewItem, PieceItem, AlignmentItem, CatalogueItems}
use Rattle.rs_catalog_pages.specs.Directory.{TreeItem, DirectoryItems}
use Rattle.rs_catalog_pages.specs.declared.items.StoredRoute.{StoredRoute}
use Rattle.rs_catalog_pages.specs.declared.items.StoredColumn.{StoredColumn}
use Rattle.rs_catalog_pages.specs.declared.items.StoredTable.{StoredTable}
use Rattle.rs_catalog_pages.specs.declared.items.StoredIndex.{StoredIndex}
use Rattle.rs_catalog_pages.specs.declared.items.StoredView.{StoredView}
use Rattle.rs_catalog_pages.specs.declared.items.StoredPiece.{StoredPiece}
use Rattle.rs_catalog_pages.specs.declared.items.StoredAlignment.{StoredAlignment}
use Rattle.rs_catalog_pages.specs.declared.items.StoredCatalogue.{StoredCatalogue}
use Rattle.rs_catalog_pages.specs.declared.directory_items.StoredTree.{StoredTree}
use Rattle.rs_catalog_pages.specs.declared.directory_items.StoredRoot.{StoredRoot}
use Rattle.rs_catalog_pages.specs.declared.directory_items.StoredDirectory.{StoredDirectory}

abbrev pub said_route : StoredRoute → RouteItem
said_route route = record { name = string_bytes route.name.value; number = route.number; start = route.start; finish = route.finish; born = route.born }

abbrev pub said_column : StoredColumn → ColumnItem
said_column column = record { name = string_bytes column.name; type = column.type_code }

abbrev pub said_table : StoredTable → TableItem
said_table table = record { name = string_bytes table.name; number = table.number; kind = table.kind; columns = map said_column table.columns.list.items }

abbrev pub said_index : StoredIndex → IndexItem
said_index index = record { name = string_bytes index.name; number = index.number; table = index.table; column = index.column }

abbrev pub said_view : StoredView → ViewItem
said_view view = record { name = string_bytes view.name; text = string_bytes view.text.text }

abbrev pub said_piece : StoredPiece → PieceItem
said_piece piece = record { from_route = piece.from_route; from = piece.from; to = piece.to; onto_route = piece.onto_route; onto = piece.onto }

abbrev pub said_alignment : StoredAlignment → AlignmentItem
said_alignment alignment = record { name = string_bytes alignment.name; pieces = map said_piece alignment.pieces.list.items }

abbrev pub said_catalogue : StoredCatalogue → CatalogueItems
said_catalogue catalogue = record {
  routes = map said_route catalogue.routes.items;
  tables = map said_table catalogue.tables.items;
  indexes = map said_index catalogue.indexes.items;
  views = map said_view catalogue.views.items;
  alignments = map said_alignment catalogue.alignments.items;
}

abbrev pub said_tree : StoredTree → TreeItem
said_tree tree = record { root = tree.root; living = tree.living; garbage = tree.garbage }

abbrev pub said_directory : StoredDirectory → DirectoryItems
said_directory directory = record {
  tables = map said_tree directory.tables.list.items;
  indexes = map (λ (root : StoredRoot). root.root) directory.indexes.list.items;
  referents = said_tree directory.referents;
  accepted = directory.accepted;
}
