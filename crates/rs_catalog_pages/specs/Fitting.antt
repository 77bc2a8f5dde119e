-- Which definitions bytes can say.
use Rattle.std.specs.Prelude.{◌≡◌, ◌<◌, ◌^◌, ℕ, List, length, All}
use Rattle.rs_catalog_pages.specs.declared.directory_items.TheConstants.{INDEXES, TABLES}
use Rattle.rs_catalog_pages.specs.Directory.{TreeItem, DirectoryItems}
use Rattle.rs_catalog_pages.specs.Items.{RouteItem, ColumnItem, TableItem, IndexItem, ViewItem, PieceItem, AlignmentItem, CatalogueItems, SaysCatalogue}

pub record FitsRoute (route : RouteItem) : Type 0 where
  pub name : length route.name < 2 ^ 8
  pub number : route.number < 2 ^ 32
  pub start : route.start < 2 ^ 32
  pub finish : route.finish < 2 ^ 32
  pub born : route.born < 2 ^ 64

pub record FitsColumn (column : ColumnItem) : Type 0 where
  pub name : length column.name < 2 ^ 8
  pub type : column.type < 2 ^ 8

pub record FitsTable (table : TableItem) : Type 0 where
  pub name : length table.name < 2 ^ 8
  pub number : table.number < 2 ^ 32
  pub kind : table.kind < 2 ^ 8
  pub few : length table.columns < 2 ^ 8
  pub columns : All FitsColumn table.columns

pub record FitsIndex (index : IndexItem) : Type 0 where
  pub name : length index.name < 2 ^ 8
  pub number : index.number < 2 ^ 32
  pub table : index.table < 2 ^ 32
  pub column : index.column < 2 ^ 8

pub record FitsView (view : ViewItem) : Type 0 where
  pub name : length view.name < 2 ^ 8
  pub text : length view.text < 2 ^ 16

pub record FitsPiece (piece : PieceItem) : Type 0 where
  pub from_route : piece.from_route < 2 ^ 32
  pub from : piece.from < 2 ^ 32
  pub to : piece.to < 2 ^ 32
  pub onto_route : piece.onto_route < 2 ^ 32
  pub onto : piece.onto < 2 ^ 32

pub record FitsAlignment (alignment : AlignmentItem) : Type 0 where
  pub name : length alignment.name < 2 ^ 8
  pub few : length alignment.pieces < 2 ^ 8
  pub pieces : All FitsPiece alignment.pieces

pub record FitsCatalogue (catalogue : CatalogueItems) : Type 0 where
  pub few_routes : length catalogue.routes < 2 ^ 32
  pub routes : All FitsRoute catalogue.routes
  pub few_tables : length catalogue.tables < 2 ^ 32
  pub tables : All FitsTable catalogue.tables
  pub few_indexes : length catalogue.indexes < 2 ^ 32
  pub indexes : All FitsIndex catalogue.indexes
  pub few_views : length catalogue.views < 2 ^ 32
  pub views : All FitsView catalogue.views
  pub few_alignments : length catalogue.alignments < 2 ^ 32
  pub alignments : All FitsAlignment catalogue.alignments

-- the bytes of the catalogue can be counted in page 0
pub record IsShort (catalogue : CatalogueItems) : Type 0 where
  pub each : (bytes : List ℕ) → SaysCatalogue bytes catalogue → length bytes < 2 ^ 32

pub record FitsTree (tree : TreeItem) : Type 0 where
  pub root : tree.root < 2 ^ 32
  pub living : tree.living < 2 ^ 64
  pub garbage : tree.garbage < 2 ^ 64

pub record FitsDirectory (directory : DirectoryItems) : Type 0 where
  pub all_tables : length directory.tables ≡ TABLES
  pub tables : All FitsTree directory.tables
  pub all_indexes : length directory.indexes ≡ INDEXES
  pub indexes : All (λ root. root < 2 ^ 32) directory.indexes
  pub referents : FitsTree directory.referents
  pub accepted : directory.accepted < 2 ^ 64
