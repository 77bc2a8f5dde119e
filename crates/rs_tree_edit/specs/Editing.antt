-- What is written into pages of a tree.
use Rattle.std.specs.Prelude.{◌≡◌, ◌<◌, ◌≤◌, ◌+◌, ℕ, Some, None, false, List, ◌++◌, length, take, drop}
use Rattle.rs_page.specs.PageBytes.{is_free}
use Rattle.rs_page.specs.declared.header.PageKind.{PageKind}
use Rattle.rs_pages.specs.FreeList.{IsFreeList}
use Rattle.rs_pages.specs.PageMap.{PageMap, ReplacesPage, KeepsOtherPages, in_use}
use Rattle.rs_records.specs.Records.{records}
use Rattle.rs_page_owners.specs.Counts.{one_at, no_pages}
use Rattle.rs_page_owners.specs.Owners.{Moves}
use Rattle.rs_tree.specs.Content.{HasRecords, content}

-- the page begins with the header of a tree's page, and holds just these records
pub record Lists (page : List ℕ) (kind : PageKind) (number width : ℕ) (rs : List (List ℕ)) : Type 0 where
  pub has : HasRecords page kind number (length rs) width
  pub holds : records (length rs) width (content page) ≡ rs

-- the page with this number, which was in use, holds other records: those from a place on, so many, gave way to the added ones
pub record Splices (old new : PageMap) (number : ℕ) (kind : PageKind) (width count at removed : ℕ) (added : List (List ℕ)) : Type 0 where
  pub was : List ℕ
  pub page : List ℕ
  pub there : old.page number ≡ Some was
  pub used : is_free was ≡ false
  pub below : number < old.fields.pages
  pub replaces : ReplacesPage number page old new
  pub lists : Lists page kind number width
      (take at (records count width (content was)) ++ (added ++ drop (at + removed) (records count width (content was))))

-- a page that was not in use holds these records, and each other page stays
pub record AddsPage (old new : PageMap) (number : ℕ) (kind : PageKind) (width : ℕ) (rs : List (List ℕ)) : Type 0 where
  pub after : 1 < number
  pub below : number < new.fields.pages
  pub no_fewer : old.fields.pages ≤ new.fields.pages
  pub fresh : in_use old number ≡ None
  pub page : List ℕ
  pub there : new.page number ≡ Some page
  pub lists : Lists page kind number width rs
  pub others : KeepsOtherPages number old new
  pub moves : Moves old new no_pages (one_at number)

-- no list of pages is the free list
pub record HasNoFreeList (map : PageMap) : Type 0 where
  pub none : (free : List ℕ) → IsFreeList map free → ⊥
