-- What each slot of the directory says: the tree of the table with its number, the root of the index with its number, and zeros where
-- there is none.
use Rattle.std.specs.Prelude.{◌≡◌, ◌≤◌, ◌<◌, ◌+◌, ◌*◌, ◌^◌, ◌==◌, ℕ, Some, All, List, filter, length, map, slice_get}
use Rattle.std.specs.List.{AllZip}
use Rattle.rs_page.specs.declared.header.TheConstants.{PAGE_ROOM}
use Rattle.rs_attr.specs.Entries.{FitsPages, IsColumn}
use Rattle.rs_attr.specs.Tables.{IndexState}
use Rattle.rs_catalog_pages.specs.Directory.{TreeItem}
use Rattle.rs_catalog_pages.specs.Fitting.{FitsTree}
use Rattle.rs_catalog_pages.specs.Items.{CatalogueItems, IndexItem, TableItem}
use Rattle.rs_catalog_pages.specs.declared.directory_items.StoredRoot.{StoredRoot}
use Rattle.rs_catalog_pages.specs.declared.directory_items.TheConstants.{INDEXES, TABLES}
use Rattle.rs_file.specs.Contents.{item_of, no_tree, type_of}
use Rattle.rs_file.specs.declared.opened.OpenedTable.{OpenedTable}
use Rattle.rs_page_owners.specs.Counts.{times}
use Rattle.rs_value.specs.declared.column.ColumnType.{ColumnType}
use Rattle.rs_value.specs.declared.column.TheConstants.{COLUMNS}
use Rattle.rs_versioned.specs.Events.{event_width}

-- the indexes of the table with this number, in their order
abbrev pub indexes_on : List IndexItem → ℕ → List IndexItem
indexes_on indexes number = filter (λ index. index.table == number) indexes

-- the index is that of the column that its item names, and three of its entries fit a page
pub record IsIndexOf (types : List ColumnType) (item : IndexItem) (index : IndexState) : Type 0 where
  pub column : IsColumn types item.column index.field
  pub fits : FitsPages types item.column

-- whatever the directory says: the table has the columns of its item, three entries of its tree fit a page, and its indexes are
-- those of its number, in their order
pub record IsOfItem (definitions : CatalogueItems) (item : TableItem) (opened : OpenedTable) : Type 0 where
  pub few : length item.columns ≤ COLUMNS
  pub types : opened.records.types ≡ map type_of item.columns
  pub fits : 3 * (8 + event_width opened.records.types) ≤ PAGE_ROOM
  pub indexes : AllZip (IsIndexOf opened.records.types) (indexes_on definitions.indexes item.number) opened.indexes.items

-- the slot of the table's number has its tree
abbrev pub HasTree : List TreeItem → TableItem → OpenedTable → Type 0
HasTree trees item opened = slice_get trees item.number ≡ Some (item_of opened.records.working)

-- the slot of the index's number has its root
abbrev pub HasRoot : List ℕ → IndexItem → IndexState → Type 0
HasRoot roots item index = slice_get roots item.number ≡ Some index.working

-- the slots of the numbers of the table's indexes have their roots
abbrev pub HasRoots : List IndexItem → List ℕ → TableItem → OpenedTable → Type 0
HasRoots indexes roots item opened = AllZip (HasRoot roots) (indexes_on indexes item.number) opened.indexes.items

-- these tables have their trees, and no other number has one
pub record AreTrees (items : List TableItem) (opened : List OpenedTable) (trees : List TreeItem) : Type 0 where
  pub slots : length trees ≡ TABLES
  pub fit : All FitsTree trees
  pub given : AllZip (HasTree trees) items opened
  pub others : (number : ℕ) → number < TABLES → times (map (λ item. item.number) items) number ≡ 0 → slice_get trees number ≡ Some no_tree

-- the indexes of these tables have their roots, and no number that isn't an index's has one
pub record AreRoots (indexes : List IndexItem) (items : List TableItem) (opened : List OpenedTable) (roots : List ℕ) : Type 0 where
  pub slots : length roots ≡ INDEXES
  pub fit : All (λ root. root < 2 ^ 32) roots
  pub given : AllZip (HasRoots indexes roots) items opened
  pub others : (number : ℕ) → number < INDEXES → times (map (λ index. index.number) indexes) number ≡ 0 → slice_get roots number ≡ Some 0

-- these indexes have their roots, and under all other numbers stands what stood there before
pub record ArePut (items : List IndexItem) (indexes : List IndexState) (before roots : List ℕ) : Type 0 where
  pub slots : length roots ≡ INDEXES
  pub fit : All (λ root. root < 2 ^ 32) roots
  pub given : AllZip (HasRoot roots) items indexes
  pub others : (number : ℕ) → times (map (λ index. index.number) items) number ≡ 0 → slice_get roots number ≡ slice_get before number

-- as many indexes as are on the table
abbrev pub HasAsMany : List IndexItem → TableItem → OpenedTable → Type 0
HasAsMany indexes item opened = length (indexes_on indexes item.number) ≡ length opened.indexes.items

-- the roots that these items say
abbrev pub said_roots : List StoredRoot → List ℕ
said_roots = map (λ (root : StoredRoot). root.root)
