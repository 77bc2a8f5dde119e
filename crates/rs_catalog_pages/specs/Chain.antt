-- The pages of the catalogue: bytes that go on from page to page.
use Rattle.std.specs.Prelude.{◌≡◌, ◌<◌, ◌≤◌, ℕ, Some, List, [], ◌∷◌, ◌++◌, take, drop, length}
use Rattle.rs_page.specs.declared.page.TheConstants.{PAGE_SIZE}
use Rattle.rs_page_owners.specs.Counts.{◌&◌, times}
use Rattle.rs_page_owners.specs.Owners.{KeepsPages, Shares}
use Rattle.rs_page.specs.Follow.{MayFollow}
use Rattle.rs_page.specs.Header.{IsHeader}
use Rattle.rs_page.specs.declared.header.PageHeader.{PageHeader}
use Rattle.rs_page.specs.declared.header.PageKind.TheVariants.{Catalogue}
use Rattle.rs_page.specs.declared.header.TheConstants.{HEADER_SIZE}
use Rattle.rs_pages.specs.PageMap.{PageMap}

-- the header of a page of the catalogue
abbrev pub catalogue_header : ℕ → ℕ → ℕ → PageHeader
catalogue_header count number next = record { kind = Catalogue; count = count; number = number; next = next }

-- the page with this number holds these bytes of the catalogue, which go on at the next page (0: they end)
pub record HoldsPart (map : PageMap) (number next : ℕ) (bytes : List ℕ) : Type 0 where
  pub after : 1 < number
  pub below : number < map.fields.pages
  pub page : List ℕ
  pub there : map.page number ≡ Some page
  pub size : length page ≡ PAGE_SIZE
  pub header : IsHeader page (catalogue_header (length bytes) number next)
  pub follows : MayFollow next map.fields.pages
  pub held : take (length bytes) (drop HEADER_SIZE page) ≡ bytes

-- from this page on the pages with these numbers hold these bytes, one after another
abbrev pub HoldsFrom : PageMap → ℕ → List ℕ → List ℕ → Type 0
HoldsFrom map first [] bytes = (first ≡ 0) × (bytes ≡ [])
HoldsFrom map first (number ∷ numbers) bytes =
    (first ≡ number) × ((next : ℕ) × (part rest : List ℕ) × (bytes ≡ part ++ rest) × HoldsPart map number next part × HoldsFrom map next numbers rest)

-- these are the pages of the catalogue, in their order, each once, and its bytes, as many as page 0 says
pub record HoldsBytes (map : PageMap) (numbers bytes : List ℕ) : Type 0 where
  pub chain : HoldsFrom map map.fields.catalogue numbers bytes
  pub count : length bytes ≡ map.fields.catalogue_length
  pub once : (number : ℕ) → times numbers number ≤ 1

-- no pages that weren't reached before hold the bytes of a catalogue
pub record HoldsNoFreshBytes (map : PageMap) (before : ℕ → ℕ) : Type 0 where
  pub none : (numbers bytes : List ℕ) → HoldsBytes map numbers bytes → ((number : ℕ) → (before & times numbers) number ≤ 1) → ⊥

-- The catalogue has these bytes now, in these pages; whoever else has pages keeps them, and each page has one owner again.
pub record StoresBytes (old new : PageMap) (before after bytes : List ℕ) : Type 0 where
  pub holds : HoldsBytes new after bytes
  pub shares : (others : ℕ → ℕ) → Shares old (times before & others) → Shares new (times after & others) × KeepsPages others old new
