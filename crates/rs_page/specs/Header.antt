-- The first 16 bytes of a page.
use Rattle.std.specs.Prelude.{◌≡◌, ◌≤◌, ◌<◌, ◌-◌, ℕ, List}
use Rattle.rs_page.specs.declared.page.TheConstants.{PAGE_SIZE}
use Rattle.rs_page.specs.Number.{number_at}
use Rattle.rs_page.specs.declared.header.TheConstants.{HEADER_SIZE}
use Rattle.rs_page.specs.declared.header.PageKind.{PageKind}
use Rattle.rs_page.specs.declared.header.PageKind.TheVariants.{Header, Leaf, Inner, Catalogue, Free, Directory}
use Rattle.rs_page.specs.declared.header.PageHeader.{PageHeader}
use Rattle.rs_page.specs.declared.header.ContentKind.{ContentKind}
use Rattle.rs_page.specs.declared.header.ContentKind.TheVariants as content
use Rattle.rs_page.specs.Follow.{MayFollow}

-- the number that stands for a kind in a page
abbrev pub kind_number : PageKind → ℕ
kind_number Header = 1
kind_number Leaf = 2
kind_number Inner = 3
kind_number Catalogue = 4
kind_number Free = 5
kind_number Directory = 6

-- the kind of a page with this content
abbrev pub page_kind : ContentKind → PageKind
page_kind content.Leaf = Leaf
page_kind content.Inner = Inner
page_kind content.Catalogue = Catalogue

-- the page begins with this header
pub record IsHeader (page : List ℕ) (header : PageHeader) : Type 0 where
  pub kind : number_at 0 1 page ≡ kind_number header.kind
  pub zero : number_at 1 1 page ≡ 0
  pub count : number_at 2 2 page ≡ header.count
  pub number : number_at 4 4 page ≡ header.number
  pub next : number_at 8 4 page ≡ header.next
  pub zeros : number_at 12 4 page ≡ 0

-- what a kind asks of the page's number, its count and its next page, in a file of so many pages
abbrev pub FitsKind : PageKind → ℕ → ℕ → ℕ → ℕ → Type 0
FitsKind Header number count next pages = (number ≡ 0) × (count ≡ 0) × (next ≡ 0)
FitsKind Directory number count next pages = (number ≡ 1) × (count ≡ 0) × (next ≡ 0)
FitsKind Leaf number count next pages = (1 < number) × (1 ≤ count) × (next ≡ 0)
FitsKind Inner number count next pages = (1 < number) × (2 ≤ count) × (next ≡ 0)
FitsKind Catalogue number count next pages = (1 < number) × (count ≤ PAGE_SIZE - HEADER_SIZE) × MayFollow next pages
FitsKind Free number count next pages = (1 < number) × (count ≡ 0) × MayFollow next pages

-- the header is one of the page with this number
abbrev pub Fits : PageHeader → ℕ → ℕ → Type 0
Fits header number pages = (header.number ≡ number) × FitsKind header.kind number header.count header.next pages
