-- The pages of a file, whatever holds them.
use Rattle.std.specs.Prelude.{◌≡◌, ◌≢◌, ◌&&◌, ℕ, Bool, nat_lt, Option, Some, None, List, if◌then◌else◌}
use Rattle.rs_page.specs.PageBytes.{is_free, IsFit, IsBlank}
use Rattle.rs_page.specs.declared.header.PageKind.{PageKind}
use Rattle.rs_page.specs.declared.header.PageKind.TheVariants.{Directory}
use Rattle.rs_page.specs.declared.file_header.FileHeader.{FileHeader}

-- the fields of page 0, and the bytes of each page after it, free or not (None: there is no such page)
pub record PageMap : Type 0 where
  pub fields : FileHeader
  pub page : ℕ → Option (List ℕ)

-- a file of so many pages has this one after page 0
abbrev pub is_page : ℕ → ℕ → Bool
is_page pages number = nat_lt 0 number && nat_lt number pages

-- the page, where it is in use
abbrev pub used_page : Option (List ℕ) → Option (List ℕ)
used_page None = None
used_page (Some page) = if is_free page then None else Some page

-- the page with this number, where it is in use (None: there is no such page, or it is free)
abbrev pub in_use : PageMap → ℕ → Option (List ℕ)
in_use map number = used_page (map.page number)

-- no page with this number is in use and begins with a header that fits it
pub record HasNoFit (map : PageMap) (number : ℕ) : Type 0 where
  pub none : (page : List ℕ) → in_use map number ≡ Some page → IsFit page number map.fields.pages → ⊥

-- the same fields and the same pages
pub record SamePages (one other : PageMap) : Type 0 where
  pub fields : one.fields ≡ other.fields
  pub pages : (number : ℕ) → one.page number ≡ other.page number

-- each page but one stays
pub record KeepsOtherPages (number : ℕ) (old new : PageMap) : Type 0 where
  pub pages : (other : ℕ) → other ≢ number → new.page other ≡ old.page other

-- the page with this number has these bytes now, and all else stays
pub record ReplacesPage (number : ℕ) (page : List ℕ) (old new : PageMap) : Type 0 where
  pub fields : new.fields ≡ old.fields
  pub there : new.page number ≡ Some page
  pub others : KeepsOtherPages number old new

-- the page with this number is of this kind, with nothing in it
pub record HasBlank (map : PageMap) (kind : PageKind) (number next : ℕ) : Type 0 where
  pub page : List ℕ
  pub blank : IsBlank page kind number next
  pub there : map.page number ≡ Some page

-- the catalogue begins at this page and has so many bytes, and all else stays
abbrev pub with_catalogue : ℕ → ℕ → FileHeader → FileHeader
with_catalogue first length fields = record fields { catalogue = first; catalogue_length = length }

-- the fields of page 0 of a file of it and the directory
abbrev pub empty_fields : FileHeader
empty_fields = record { pages = 2; first_free = 0; free_pages = 0; catalogue = 0; catalogue_length = 0 }

-- page 0 and a directory with nothing in it
pub record IsEmptyFile (map : PageMap) : Type 0 where
  pub fields : map.fields ≡ empty_fields
  pub directory : HasBlank map Directory 1 0
