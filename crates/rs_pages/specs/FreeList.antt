-- The free list, and how pages come from it and go to it.
use Rattle.std.specs.Prelude.{◌≡◌, ◌≢◌, ◌⊎◌, ◌<◌, ◌+◌, ◌-◌, ℕ, Some, List, [], ◌∷◌, length}
use Rattle.rs_page.specs.Follow.{MayFollow}
use Rattle.rs_page.specs.PageBytes.{IsFreeLink}
use Rattle.rs_page.specs.declared.file_header.FileHeader.{FileHeader}
use Rattle.rs_page.specs.declared.header.PageKind.{PageKind}
use Rattle.rs_page.specs.declared.header.PageKind.TheVariants.{Free}
use Rattle.rs_pages.specs.PageMap.{PageMap, HasBlank, KeepsOtherPages}

-- the page with this number is free and says nothing but the next free one (0: it is the last)
pub record IsFreePage (map : PageMap) (number next : ℕ) : Type 0 where
  pub below : number < map.fields.pages
  pub page : List ℕ
  pub there : map.page number ≡ Some page
  pub link : IsFreeLink page number next map.fields.pages

-- these are the free pages, from this one on
abbrev pub FreeFrom : PageMap → ℕ → List ℕ → Type 0
FreeFrom map first [] = first ≡ 0
FreeFrom map first (number ∷ numbers) =
    (first ≡ number) × ((next : ℕ) × IsFreePage map number next × FreeFrom map next numbers)

-- these are the pages of the free list, in its order, and as many as page 0 says
pub record IsFreeList (map : PageMap) (numbers : List ℕ) : Type 0 where
  pub chain : FreeFrom map map.fields.first_free numbers
  pub count : length numbers ≡ map.fields.free_pages

-- the first page of the free list is taken from it, and this is the next one
pub record TakesFree (old new : FileHeader) (number next : ℕ) : Type 0 where
  pub first : old.first_free ≡ number
  pub some : number ≢ 0
  pub counted : 0 < old.free_pages
  pub follows : MayFollow next old.pages
  pub fields : new ≡ record old { first_free = next; free_pages = old.free_pages - 1 }

-- the free list is empty, and a page comes after the last
pub record TakesLast (old new : FileHeader) (number : ℕ) : Type 0 where
  pub none_free : old.first_free ≡ 0
  pub last : old.pages ≡ number
  pub fields : new ≡ record old { pages = number + 1 }

-- a page of this kind, with nothing in it, comes into use, and each other page stays
pub record Allocates (kind : PageKind) (old new : PageMap) (number : ℕ) : Type 0 where
  pub fields : ((next : ℕ) × TakesFree old.fields new.fields number next × IsFreePage old number next) ⊎ TakesLast old.fields new.fields number
  pub there : HasBlank new kind number 0
  pub others : KeepsOtherPages number old new

-- the page becomes the first of the free list, and each other page stays
pub record Releases (old new : PageMap) (number : ℕ) : Type 0 where
  pub fields : new.fields ≡ record old.fields { first_free = number; free_pages = old.fields.free_pages + 1 }
  pub there : HasBlank new Free number old.fields.first_free
  pub others : KeepsOtherPages number old new
