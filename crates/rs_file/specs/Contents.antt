-- What stands in the pages of a file: the definitions, the directory, the tables with their indexes, the referents.
use Rattle.std.specs.Prelude.{◌≡◌, ◌≤◌, ◌<◌, ◌+◌, ◌*◌, ◌^◌, ◌==◌, ℕ, Some, List, filter, if◌then◌else◌, length, map, slice_get}
use Rattle.std.specs.List.{AllByRecursion, AllZip}
use Rattle.rs_page.specs.declared.header.TheConstants.{PAGE_ROOM}
use Rattle.rs_attr.specs.Entries.{Field, FitsPages, IsColumn}
use Rattle.rs_attr.specs.Tables.{HoldsTable, IndexState, all_of}
use Rattle.rs_catalog_pages.specs.Chain.{HoldsBytes}
use Rattle.rs_catalog_pages.specs.Directory.{DirectoryItems, HasDirectory, TreeItem}
use Rattle.rs_catalog_pages.specs.declared.directory_items.TheConstants.{INDEXES, TABLES}
use Rattle.rs_catalog_pages.specs.Items.{CatalogueItems, ColumnItem, IndexItem, SaysCatalogue, TableItem}
use Rattle.rs_page_owners.specs.Counts.{◌&◌, one_at, times}
use Rattle.rs_page_owners.specs.Owners.{Shares}
use Rattle.rs_pages.specs.PageMap.{PageMap}
use Rattle.rs_value.specs.declared.column.ColumnType.{ColumnType}
use Rattle.rs_value.specs.declared.column.TheConstants.{COLUMNS}
use Rattle.rs_value.specs.declared.column.ColumnType.TheVariants as types
use Rattle.rs_versioned.specs.Events.{Event, event_width}
use Rattle.rs_versioned.specs.Records.{HoldsRecords}
use Rattle.rs_versioned.specs.Referents.{ReferentRecord, kept_referents}
use Rattle.rs_attr.specs.Versioned.{Standing}

-- a table: the types of its columns, how its records stand, its indexes, its events, and the pages of its records and of each index
pub record TableContents : Type 0 where
  pub types : List ColumnType
  pub standing : Standing
  pub indexes : List IndexState
  pub events : List Event
  pub used : ℕ → ℕ
  pub uses : List (ℕ → ℕ)

-- the referents: how their records stand, what they are, and their pages
pub record ReferentContents : Type 0 where
  pub standing : Standing
  pub referents : List ReferentRecord
  pub used : ℕ → ℕ

pub record Contents : Type 0 where
  pub definitions : CatalogueItems
  pub pages : List ℕ  -- those of the definitions, in their order
  pub directory : DirectoryItems
  pub tables : List TableContents  -- in the order of their definitions
  pub referents : ReferentContents

-- the pages of a table's records and of its indexes
abbrev pub table_pages : TableContents → ℕ → ℕ
table_pages table = table.used & all_of table.uses

-- all pages but page 0 and the free ones: the directory's, those of the definitions, of the tables and of the referents
abbrev pub owned : Contents → ℕ → ℕ
owned contents = one_at 1 & (times contents.pages & (all_of (map table_pages contents.tables) & contents.referents.used))

-- the type of a column, as its item says it
abbrev pub type_of : ColumnItem → ColumnType
type_of column = if column.type == 0 then types.Int else types.Text column.type

-- what the directory says of a tree of records
abbrev pub item_of : Standing → TreeItem
item_of standing = record { root = standing.root; living = standing.living; garbage = length standing.dead }

-- what the directory says where there is no table
abbrev pub no_tree : TreeItem
no_tree = record { root = 0; living = 0; garbage = 0 }

-- the index is that of the column that its item names, three of its entries fit a page, and its root is in the directory
pub record IsIndex (types : List ColumnType) (directory : DirectoryItems) (item : IndexItem) (index : IndexState) : Type 0 where
  pub column : IsColumn types item.column index.field
  pub fits : FitsPages types item.column
  pub root : slice_get directory.indexes item.number ≡ Some index.working

-- the table is as its item says, three entries of its tree fit a page, it stands as the directory says, and its indexes are those
-- of its number, in their order
pub record IsTable (directory : DirectoryItems) (items : List IndexItem) (item : TableItem) (table : TableContents) : Type 0 where
  pub few : length item.columns ≤ COLUMNS
  pub types : table.types ≡ map type_of item.columns
  pub fits : 3 * (8 + event_width table.types) ≤ PAGE_ROOM
  pub stands : slice_get directory.tables item.number ≡ Some (item_of table.standing)
  pub indexes : AllZip (IsIndex table.types directory) (filter (λ index. index.table == item.number) items) table.indexes

abbrev pub table_numbers : CatalogueItems → List ℕ
table_numbers definitions = map (λ table. table.number) definitions.tables

abbrev pub index_numbers : CatalogueItems → List ℕ
index_numbers definitions = map (λ index. index.number) definitions.indexes

-- each number is below its limit and given once, and each index is of a table
pub record AreGivenOnce (definitions : CatalogueItems) : Type 0 where
  pub tables_below : AllByRecursion (λ table. table.number < TABLES) definitions.tables
  pub tables_once : (number : ℕ) → times (table_numbers definitions) number ≤ 1
  pub indexes_below : AllByRecursion (λ index. index.number < INDEXES) definitions.indexes
  pub indexes_once : (number : ℕ) → times (index_numbers definitions) number ≤ 1
  pub of_tables : AllByRecursion (λ index. 0 < times (table_numbers definitions) index.table) definitions.indexes

-- the numbers are given so, and the directory has nothing under one that is not given
pub record AreNumbered (definitions : CatalogueItems) (directory : DirectoryItems) : Type 0 where
  pub given : AreGivenOnce definitions
  pub no_table : (number : ℕ) → number < TABLES → times (table_numbers definitions) number ≡ 0 → slice_get directory.tables number ≡ Some no_tree
  pub no_index : (number : ℕ) → number < INDEXES → times (index_numbers definitions) number ≡ 0 → slice_get directory.indexes number ≡ Some 0

-- the definitions and the directory say just these tables with their indexes, and these referents
pub record AreSaid (contents : Contents) : Type 0 where
  pub numbered : AreNumbered contents.definitions contents.directory
  pub tables : AllZip (IsTable contents.directory contents.definitions.indexes) contents.definitions.tables contents.tables
  pub referents : contents.directory.referents ≡ item_of contents.referents.standing

-- neither the table nor one of its indexes has a root
pub record HasNoRoots (table : TableContents) : Type 0 where
  pub records : table.standing.root ≡ 0
  pub indexes : AllByRecursion (λ index. index.working ≡ 0) table.indexes

-- these pages hold the definitions
pub record HoldsDefinitions (map : PageMap) (pages : List ℕ) (definitions : CatalogueItems) : Type 0 where
  pub bytes : List ℕ
  pub holds : HoldsBytes map pages bytes
  pub says : SaysCatalogue bytes definitions

-- the table lies in its pages, with no version after the one that was accepted last
abbrev pub LiesTable : PageMap → ℕ → TableContents → Type 0
LiesTable map accepted table = HoldsTable table.types map table.standing table.indexes accepted table.events table.used table.uses

-- the definitions, the tables with their indexes and the referents lie in their pages, and each page of the file is page 0, a free
-- one, the directory's, or of one of these
pub record HoldsParts (map : PageMap) (accepted : ℕ) (contents : Contents) : Type 0 where
  pub definitions : HoldsDefinitions map contents.pages contents.definitions
  pub tables : AllByRecursion (LiesTable map accepted) contents.tables
  pub referents : HoldsRecords kept_referents map contents.referents.standing accepted contents.referents.referents contents.referents.used
  pub shares : Shares map (owned contents)

-- the file's pages hold just this, and no version in them comes after the one that was accepted last. What the definitions and the
-- records mean is not asked here: the order of names, the codes of kinds and types, the numbers of routes, the bounds of spans, runs,
-- what views and alignments say, and how many there are of each
pub record HoldsAll (map : PageMap) (contents : Contents) : Type 0 where
  pub directory : HasDirectory map contents.directory
  pub said : AreSaid contents
  pub limit : contents.directory.accepted < 2 ^ 63
  pub routes : AllByRecursion (λ route. route.born ≤ contents.directory.accepted) contents.definitions.routes
  pub parts : HoldsParts map contents.directory.accepted contents

-- all pages but page 0, the free ones, and those of a table that is not among these others
abbrev pub beside_table : Contents → List TableContents → ℕ → ℕ
beside_table contents others = one_at 1 & (times contents.pages & (all_of (map table_pages others) & contents.referents.used))

-- all pages but page 0, the free ones, and those of the referents
abbrev pub beside_referents : Contents → ℕ → ℕ
beside_referents contents = one_at 1 & (times contents.pages & all_of (map table_pages contents.tables))

-- all pages but page 0, the free ones, and those of the definitions
abbrev pub beside_definitions : Contents → ℕ → ℕ
beside_definitions contents = one_at 1 & (all_of (map table_pages contents.tables) & contents.referents.used)

-- each index with the root of its tree
abbrev pub index_roots : List IndexState → List (Field × ℕ)
index_roots = map (λ index. (index.field, index.working))

-- the same columns, events, roots, counts and pages
pub record SameTable (one other : TableContents) : Type 0 where
  pub types : one.types ≡ other.types
  pub events : one.events ≡ other.events
  pub stands : item_of one.standing ≡ item_of other.standing
  pub indexes : index_roots one.indexes ≡ index_roots other.indexes
  pub pages : (number : ℕ) → table_pages one number ≡ table_pages other number

-- the same definitions in the same pages, the same directory, tables and referents
pub record SameContents (one other : Contents) : Type 0 where
  pub definitions : one.definitions ≡ other.definitions
  pub pages : one.pages ≡ other.pages
  pub directory : one.directory ≡ other.directory
  pub tables : AllZip SameTable one.tables other.tables
  pub referents : one.referents.referents ≡ other.referents.referents
  pub referents_stand : item_of one.referents.standing ≡ item_of other.referents.standing
  pub referents_pages : (number : ℕ) → one.referents.used number ≡ other.referents.used number
