-- What the bytes of a page say of it.
use Rattle.std.specs.Prelude.{◌≡◌, ◌≤◌, ℕ, Bool, nat_eq, List, length}
use Rattle.rs_page.specs.declared.page.TheConstants.{PAGE_SIZE}
use Rattle.rs_page.specs.Number.{number_at}
use Rattle.rs_page.specs.Header.{IsHeader, Fits, kind_number}
use Rattle.rs_page.specs.declared.header.TheConstants.{HEADER_SIZE}
use Rattle.rs_page.specs.declared.header.PageKind.{PageKind}
use Rattle.rs_page.specs.declared.header.PageKind.TheVariants.{Free}
use Rattle.rs_page.specs.declared.header.PageHeader.{PageHeader}

-- the page's kind says that it is free
abbrev pub is_free : List ℕ → Bool
is_free page = nat_eq (number_at 0 1 page) (kind_number Free)

-- the page begins with a header that fits this number, in a file of so many pages
pub record IsFit (page : List ℕ) (number pages : ℕ) : Type 0 where
  pub header : PageHeader
  pub there : IsHeader page header
  pub fits : Fits header number pages

-- the header of a page with nothing in it
abbrev pub empty_header : PageKind → ℕ → ℕ → PageHeader
empty_header kind number next = record { kind = kind; count = 0; number = number; next = next }

-- a header of this kind, and zeros after it
pub record IsBlank (page : List ℕ) (kind : PageKind) (number next : ℕ) : Type 0 where
  pub header : IsHeader page (empty_header kind number next)
  pub zeros : (place : ℕ) → HEADER_SIZE ≤ place → number_at place 1 page ≡ 0
  pub size : length page ≡ PAGE_SIZE

-- a page of a free list, in a file of so many pages: nothing but a header that fits this number and says the next free page
pub record IsFreeLink (page : List ℕ) (number next pages : ℕ) : Type 0 where
  pub blank : IsBlank page Free number next
  pub fits : Fits (empty_header Free number next) number pages
