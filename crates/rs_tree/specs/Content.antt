-- What the pages of a tree hold.
use Rattle.std.specs.Prelude.{◌≡◌, ◌≤◌, ◌*◌, ℕ, Some, List, take, drop, length, slice_get}
use Rattle.std.specs.List.{AllZip}
use Rattle.rs_page.specs.declared.page.TheConstants.{PAGE_SIZE}
use Rattle.rs_page.specs.Number.{number_at}
use Rattle.rs_page.specs.Header.{IsHeader}
use Rattle.rs_page.specs.declared.header.TheConstants.{HEADER_SIZE}
use Rattle.rs_page.specs.declared.header.PageKind.{PageKind}
use Rattle.rs_page.specs.declared.header.PageKind.TheVariants.{Leaf, Inner}
use Rattle.rs_page.specs.declared.header.PageHeader.{PageHeader}
use Rattle.rs_records.specs.Records.{records}
use Rattle.rs_tree.specs.Form.{Form, child_bytes, least_from, entry_width}

-- what follows the header of a page
unfoldable pub content : List ℕ → List ℕ
content page = drop HEADER_SIZE page

-- the header of a page of a tree
abbrev pub tree_header : PageKind → ℕ → ℕ → PageHeader
tree_header kind count number = record { kind = kind; count = count; number = number; next = 0 }

-- the page begins with such a header, and records of this width fit it
pub record HasRecords (page : List ℕ) (kind : PageKind) (number count width : ℕ) : Type 0 where
  pub header : IsHeader page (tree_header kind count number)
  pub size : length page ≡ PAGE_SIZE
  pub fit : count * width ≤ length (content page)

-- the page is a leaf with these cells
pub record IsLeaf (form : Form) (page : List ℕ) (number : ℕ) (cells : List (List ℕ)) : Type 0 where
  pub has : HasRecords page Leaf number (length cells) form.width
  pub some : 1 ≤ length cells
  pub holds : records (length cells) form.width (content page) ≡ cells

-- a page below an inner one, and the cells under it
pub record Child : Type 0 where
  pub page : ℕ
  pub cells : List (List ℕ)

-- the entry says the child: its number, the summary of its cells and the least of them
pub record SaysChild (form : Form) (entry : List ℕ) (child : Child) : Type 0 where
  pub page : number_at 0 4 entry ≡ child.page
  pub summary : form.says (take form.summary (drop child_bytes entry)) child.cells
  pub least : slice_get child.cells 0 ≡ Some (drop (least_from form.summary) entry)

-- the page is an inner one with these children
pub record IsInner (form : Form) (page : List ℕ) (number : ℕ) (children : List Child) : Type 0 where
  pub has : HasRecords page Inner number (length children) (entry_width form)
  pub some : 2 ≤ length children
  pub entries : AllZip (SaysChild form) (records (length children) (entry_width form) (content page)) children
