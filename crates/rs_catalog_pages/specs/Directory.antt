-- The directory of a file, in its page 1: the trees of tables and indexes by their numbers, that of the referents, and
-- the version that was accepted last.
use Rattle.std.specs.Prelude.{◌≡◌, ◌-◌, ◌+◌, ◌++◌, ℕ, Some, List, drop, length, replicate}
use Rattle.rs_bytes.specs.Codes.{Code, SaysBoth, SaysEach, SaysMany, SaysNumber}
use Rattle.rs_page.specs.declared.page.TheConstants.{PAGE_SIZE}
use Rattle.rs_page.specs.Header.{IsHeader}
use Rattle.rs_page.specs.PageBytes.{empty_header}
use Rattle.rs_page.specs.declared.header.PageKind.TheVariants.{Directory}
use Rattle.rs_page.specs.declared.header.TheConstants.{HEADER_SIZE}
use Rattle.rs_catalog_pages.specs.declared.directory_items.TheConstants.{INDEXES, TABLES}
use Rattle.rs_pages.specs.PageMap.{PageMap, ReplacesPage}

-- the root of a tree of records (0: it is empty), how many of them live, and how many are dead
pub record TreeItem : Type 0 where
  pub root : ℕ
  pub living : ℕ
  pub garbage : ℕ

pub record DirectoryItems : Type 0 where
  pub tables : List TreeItem  -- by number
  pub indexes : List ℕ  -- roots, by number
  pub referents : TreeItem
  pub accepted : ℕ  -- the version that was accepted last

abbrev pub SaysTree : Code TreeItem
SaysTree bytes tree =
    SaysBoth (SaysNumber 4) (SaysBoth (SaysNumber 8) (SaysNumber 8)) bytes (tree.root, (tree.living, tree.garbage))

abbrev pub SaysDirectory : Code DirectoryItems
SaysDirectory bytes directory =
    SaysBoth (SaysMany TABLES (SaysEach SaysTree)) (SaysBoth (SaysMany INDEXES (SaysEach (SaysNumber 4))) (SaysBoth SaysTree (SaysNumber 8)))
    bytes (directory.tables, (directory.indexes, (directory.referents, directory.accepted)))

-- the page is a directory: its header, the directory's bytes, and zeros to the end
pub record IsDirectory (page : List ℕ) (directory : DirectoryItems) : Type 0 where
  pub header : IsHeader page (empty_header Directory 1 0)
  pub said : List ℕ
  pub says : SaysDirectory said directory
  pub holds : drop HEADER_SIZE page ≡ said ++ replicate (PAGE_SIZE - (HEADER_SIZE + length said)) 0

-- the page is a directory
pub record IsSomeDirectory (page : List ℕ) : Type 0 where
  pub directory : DirectoryItems
  pub is : IsDirectory page directory

-- page 1 of the file is this directory
pub record HasDirectory (map : PageMap) (directory : DirectoryItems) : Type 0 where
  pub page : List ℕ
  pub there : map.page 1 ≡ Some page
  pub is : IsDirectory page directory

-- page 1 of the file is a directory
pub record HasSomeDirectory (map : PageMap) : Type 0 where
  pub directory : DirectoryItems
  pub has : HasDirectory map directory

-- page 1 of the file is no directory
pub record HasNoDirectory (map : PageMap) : Type 0 where
  pub none : (directory : DirectoryItems) → HasDirectory map directory → ⊥

-- page 1 of the file is this directory now, and nothing else has changed
pub record StoresDirectory (old new : PageMap) (directory : DirectoryItems) : Type 0 where
  pub page : List ℕ
  pub is : IsDirectory page directory
  pub replaces : ReplacesPage 1 page old new
