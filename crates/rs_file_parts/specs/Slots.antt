-- What the calls that write the slots of the directory put into its page.
use Rattle.std.specs.Prelude.{◌≡◌, ◌+◌, ◌++◌, ◌<◌, ℕ, List, Some, drop, length, map, set, slice_get, take}
use Rattle.std.specs.List.{AllByRecursion, AllZip}
use Rattle.rs_attr.specs.Tables.{IndexState}
use Rattle.rs_bytes.specs.Codes.{Code}
use Rattle.rs_catalog_pages.specs.Directory.{DirectoryItems, IsDirectory, TreeItem}
use Rattle.rs_catalog_pages.specs.Items.{IndexItem, TableItem}
use Rattle.rs_catalog_pages.specs.Said.{said_catalogue}
use Rattle.rs_catalog_pages.specs.declared.directory_items.TheConstants.{INDEXES}
use Rattle.rs_file.specs.Contents.{AreNumbered, item_of}
use Rattle.rs_file.specs.Slots.{ArePut, AreRoots, AreTrees, HasTree, indexes_on}
use Rattle.rs_file.specs.declared.opened.OpenedFile.{OpenedFile}
use Rattle.rs_file.specs.declared.opened.OpenedTable.{OpenedTable}
use Rattle.rs_page_owners.specs.Counts.{times}

-- ---- bytes

-- these bytes are at a place now, and all others are as they were
unfoldable pub with_bytes : ℕ → List ℕ → List ℕ → List ℕ
with_bytes at part bytes = take at bytes ++ (part ++ drop (at + length part) bytes)

-- bytes that say this value are at a place now, and all others are as they were
pub record PutsSaid {A : Type 0} (says : Code A) (at : ℕ) (value : A) (old new : List ℕ) : Type 0 where
  pub part : List ℕ
  pub said : says part value
  pub is : new ≡ with_bytes at part old

-- ---- one slot

-- where the page was a directory, it is the one that it has become by this change
pub record ChangesDirectory (change : DirectoryItems → DirectoryItems) (old new : List ℕ) : Type 0 where
  pub each : (was : DirectoryItems) → IsDirectory old was → IsDirectory new (change was)

-- the slot of this number has this tree
abbrev pub with_tree : ℕ → TreeItem → DirectoryItems → DirectoryItems
with_tree number tree was = record was { tables = set was.tables number tree }

-- or this root
abbrev pub with_root : ℕ → ℕ → DirectoryItems → DirectoryItems
with_root number root was = record was { indexes = set was.indexes number root }

abbrev pub with_referents : TreeItem → DirectoryItems → DirectoryItems
with_referents tree was = record was { referents = tree }

abbrev pub with_accepted : ℕ → DirectoryItems → DirectoryItems
with_accepted version was = record was { accepted = version }

-- a tree with this root and these counts
abbrev pub tree_of : ℕ → ℕ → ℕ → TreeItem
tree_of root living garbage = record { root = root; living = living; garbage = garbage }

-- ---- the slots of several

-- the slot of the table's number has the tree that stood there at the last commit
abbrev pub HadTree : List TreeItem → TableItem → OpenedTable → Type 0
HadTree trees item opened = slice_get trees item.number ≡ Some (item_of opened.records.committed)

-- the slot of the index's number has the root that stood there at the last commit
abbrev pub HadRoot : List ℕ → IndexItem → IndexState → Type 0
HadRoot roots item index = slice_get roots item.number ≡ Some index.committed

-- and those of all indexes of a table
abbrev pub HadRoots : List IndexItem → List ℕ → TableItem → OpenedTable → Type 0
HadRoots indexes roots item opened = AllZip (HadRoot roots) (indexes_on indexes item.number) opened.indexes.items

-- the page is that directory with other trees: these tables have theirs, and under all other numbers stands what stood there before
pub record HasTrees (items : List TableItem) (opened : List OpenedTable) (page : List ℕ) (was : DirectoryItems) : Type 0 where
  pub trees : List TreeItem
  pub is : IsDirectory page (record was { tables = trees })
  pub given : AllZip (HasTree trees) items opened
  pub others : (number : ℕ) → times (map (λ item. item.number) items) number ≡ 0 → slice_get trees number ≡ slice_get was.tables number

-- where the page was a directory that had of all tables the trees of the last commit, it has the trees of these now
pub record PutsTrees (all : List TableItem) (tables : List OpenedTable) (items : List TableItem) (opened : List OpenedTable) (old new : List ℕ) : Type 0 where
  pub each : (was : DirectoryItems) → IsDirectory old was → AllZip (HadTree was.tables) all tables → HasTrees items opened new was

-- the page is that directory with other roots: those of these indexes of a table
pub record HasRootsOn (items : List IndexItem) (indexes : List IndexState) (page : List ℕ) (was : DirectoryItems) : Type 0 where
  pub roots : List ℕ
  pub is : IsDirectory page (record was { indexes = roots })
  pub are : ArePut items indexes was.indexes roots

pub record PutsRootsOn (items : List IndexItem) (indexes : List IndexState) (old new : List ℕ) : Type 0 where
  pub each : (was : DirectoryItems) → IsDirectory old was → HasRootsOn items indexes new was

-- no index with this number is on one of these tables
abbrev pub IsOnNone : List IndexItem → List TableItem → ℕ → Type 0
IsOnNone indexes items number = AllByRecursion (λ item. times (map (λ index. index.number) (indexes_on indexes item.number)) number ≡ 0) items

-- and those of all indexes of these tables; under the numbers of others stands what stood there before
pub record HasRoots (indexes : List IndexItem) (items : List TableItem) (opened : List OpenedTable) (page : List ℕ) (was : DirectoryItems) : Type 0 where
  pub roots : List ℕ
  pub is : IsDirectory page (record was { indexes = roots })
  pub are : AreRoots indexes items opened roots
  pub others : (number : ℕ) → IsOnNone indexes items number → slice_get roots number ≡ slice_get was.indexes number

-- where the page was a directory that had no root under another number, and of all tables the roots of the last commit, it has the roots
-- of the indexes of these now
pub record PutsRoots (indexes : List IndexItem) (all : List TableItem) (tables : List OpenedTable) (items : List TableItem) (opened : List OpenedTable) (old new : List ℕ) : Type 0 where
  pub each : (was : DirectoryItems) → IsDirectory old was
      → ((number : ℕ) → number < INDEXES → times (map (λ index. index.number) indexes) number ≡ 0 → slice_get was.indexes number ≡ Some 0)
      → AllZip (HadRoots indexes was.indexes) all tables → HasRoots indexes items opened new was

-- the page is the directory of what is open, with this version as the one that was accepted last
pub record HasSlots (file : OpenedFile) (version : ℕ) (page : List ℕ) : Type 0 where
  pub directory : DirectoryItems
  pub is : IsDirectory page directory
  pub accepted : directory.accepted ≡ version
  pub trees : AreTrees (said_catalogue file.definitions).tables file.tables.items directory.tables
  pub roots : AreRoots (said_catalogue file.definitions).indexes (said_catalogue file.definitions).tables file.tables.items directory.indexes
  pub referents : directory.referents ≡ item_of file.referents.working

-- the directory has of each table and each index what stood there at the last commit
pub record HadSlots (file : OpenedFile) (directory : DirectoryItems) : Type 0 where
  pub trees : AllZip (HadTree directory.tables) (said_catalogue file.definitions).tables file.tables.items
  pub roots : AllZip (HadRoots (said_catalogue file.definitions).indexes directory.indexes) (said_catalogue file.definitions).tables file.tables.items

-- where the page was a directory of the same tables and indexes, which had of these what stood there at the last commit, it is that of
-- what is open
pub record PutsSlots (file : OpenedFile) (version : ℕ) (old new : List ℕ) : Type 0 where
  pub each : (was : DirectoryItems) → IsDirectory old was → AreNumbered (said_catalogue file.definitions) was → HadSlots file was → HasSlots file version new
