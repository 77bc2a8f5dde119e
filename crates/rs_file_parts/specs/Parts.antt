-- What is open of a file, the contents that lie there with it, and what a change of a part makes of them.
use Rattle.std.specs.Prelude.{◌≡◌, ℕ}
use Rattle.std.specs.List.{AllByRecursion, AllZip}
use Rattle.rs_attr.specs.Calls.{KeepsTable}
use Rattle.rs_catalog_pages.specs.Said.{said_catalogue}
use Rattle.rs_cell_versions.specs.Version.{HaveDiedBy}
use Rattle.rs_file.specs.Contents.{AreGivenOnce, Contents, HoldsParts}
use Rattle.rs_file.specs.Opening.{IsOpened}
use Rattle.rs_file.specs.Slots.{IsOfItem}
use Rattle.rs_file.specs.declared.opened.OpenedFile.{OpenedFile}
use Rattle.rs_file.specs.declared.opened.OpenedTable.{OpenedTable}
use Rattle.rs_pages.specs.PageMap.{PageMap}

-- what is open is these contents' (the directory aside)
pub record IsOpenedFile (file : OpenedFile) (contents : Contents) : Type 0 where
  pub definitions : contents.definitions ≡ said_catalogue file.definitions
  pub pages : contents.pages ≡ file.pages.items
  pub tables : AllZip IsOpened file.tables.items contents.tables
  pub referents : contents.referents.standing ≡ file.referents.working

-- these contents have become others, which lie there with what is open now; page 1 is as it was
pub record HasMade (old new : PageMap) (is : OpenedFile) (to : ℕ) (change : Contents → Type 0) : Type 0 where
  pub contents : Contents
  pub holds : HoldsParts new to contents
  pub opened : IsOpenedFile is contents
  pub directory : new.page 1 ≡ old.page 1
  pub changed : change contents

-- of whatever contents lie there up to one version, with what was open, others have become, up to another version
pub record Makes (old new : PageMap) (was is : OpenedFile) (from to : ℕ) (change : Contents → Contents → Type 0) : Type 0 where
  pub each : (contents : Contents) → HoldsParts old from contents → IsOpenedFile was contents → HasMade old new is to (change contents)

-- no contents lie there with what is open
pub record HoldsNoParts (map : PageMap) (file : OpenedFile) : Type 0 where
  pub none : (accepted : ℕ) (contents : Contents) → HoldsParts map accepted contents → IsOpenedFile file contents → ⊥

-- ---- whatever the pages are

-- the directory can be made of what is open: each number is given once, and each table is of its item
pub record IsReady (file : OpenedFile) : Type 0 where
  pub given : AreGivenOnce (said_catalogue file.definitions)
  pub tables : AllZip (IsOfItem (said_catalogue file.definitions)) (said_catalogue file.definitions).tables file.tables.items

-- no record that is known to be dead died after the version
pub record HaveAllDiedBy (version : ℕ) (file : OpenedFile) : Type 0 where
  pub tables : AllByRecursion (λ table. HaveDiedBy version table.records.working.dead) file.tables.items
  pub referents : HaveDiedBy version file.referents.working.dead

-- the columns of a table, the fields of its indexes, and what stood there at the last commit stay
abbrev pub KeepsOpened : OpenedTable → OpenedTable → Type 0
KeepsOpened was is = KeepsTable was.records is.records was.indexes.items is.indexes.items

-- only how tables, indexes and referents stand now has changed: what stood there at the last commit stays, and all else does
pub record KeepsCommitted (was is : OpenedFile) : Type 0 where
  pub definitions : is.definitions ≡ was.definitions
  pub pages : is.pages ≡ was.pages
  pub accepted : is.accepted ≡ was.accepted
  pub tables : AllZip KeepsOpened was.tables.items is.tables.items
  pub referents : is.referents.committed ≡ was.referents.committed

-- nothing has changed since the last commit: neither a table nor one of its indexes
pub record IsTableCommitted (table : OpenedTable) : Type 0 where
  pub records : table.records.committed ≡ table.records.working
  pub indexes : AllByRecursion (λ index. index.committed ≡ index.working) table.indexes.items

-- and in the whole file
pub record IsCommitted (file : OpenedFile) : Type 0 where
  pub tables : AllByRecursion IsTableCommitted file.tables.items
  pub referents : file.referents.committed ≡ file.referents.working

-- a table with its indexes is the same as another
pub record SameOpened (one other : OpenedTable) : Type 0 where
  pub records : other.records ≡ one.records
  pub indexes : other.indexes.items ≡ one.indexes.items

-- what is open is as it was
pub record IsAsItWas (was is : OpenedFile) : Type 0 where
  pub definitions : is.definitions ≡ was.definitions
  pub pages : is.pages ≡ was.pages
  pub accepted : is.accepted ≡ was.accepted
  pub tables : AllZip SameOpened was.tables.items is.tables.items
  pub referents : is.referents ≡ was.referents
