-- Parts of the catalogue in pages, and what reading and writing one does.
use Rattle.std.specs.Prelude.{◌≡◌, ◌<◌, ◌≤◌, ◌++◌, ℕ, false, Some, List, take, drop, length}
use Rattle.rs_page.specs.declared.page.TheConstants.{PAGE_SIZE}
use Rattle.rs_page.specs.Follow.{MayFollow}
use Rattle.rs_page.specs.Header.{IsHeader}
use Rattle.rs_page.specs.PageBytes.{is_free}
use Rattle.rs_page.specs.declared.header.TheConstants.{HEADER_SIZE}
use Rattle.rs_pages.specs.PageMap.{PageMap, ReplacesPage}
use Rattle.rs_catalog_pages.specs.Chain.{HoldsPart, catalogue_header}

-- what follows the header of a page
unfoldable pub content : List ℕ → List ℕ
content page = drop HEADER_SIZE page

-- the page has this number in a file of so many pages, and holds these bytes of the catalogue, which go on at the next page
pub record IsPart (page : List ℕ) (number next pages : ℕ) (bytes : List ℕ) : Type 0 where
  pub after : 1 < number
  pub header : IsHeader page (catalogue_header (length bytes) number next)
  pub follows : MayFollow next pages
  pub held : take (length bytes) (content page) ≡ bytes

-- the page holds no bytes of the catalogue, or more than so many
pub record HasNoPart (page : List ℕ) (number pages left : ℕ) : Type 0 where
  pub none : (next : ℕ) (part : List ℕ) → IsPart page number next pages part → length part ≤ left → ⊥

-- the bytes of the catalogue in the page, no more than so many, come after those that were there
pub record AppendsPart (page : List ℕ) (number next pages left : ℕ) (old new : List ℕ) : Type 0 where
  pub part : List ℕ
  pub is : IsPart page number next pages part
  pub within : length part ≤ left
  pub appended : new ≡ old ++ part

-- the same of the page with this number
pub record ReadsPart (map : PageMap) (number next left : ℕ) (old new : List ℕ) : Type 0 where
  pub part : List ℕ
  pub holds : HoldsPart map number next part
  pub within : length part ≤ left
  pub appended : new ≡ old ++ part

-- no page with this number that wasn't reached before holds bytes of the catalogue, so many at the most
pub record HasNoFreshPart (map : PageMap) (number left : ℕ) (before : ℕ → ℕ) : Type 0 where
  pub none : (next : ℕ) (part : List ℕ) → HoldsPart map number next part → length part ≤ left → before number ≡ 0 → ⊥

-- the page with this number, which was in use, holds these bytes of the catalogue now, and all else stays
pub record WritesPart (old new : PageMap) (number next : ℕ) (part : List ℕ) : Type 0 where
  pub was : List ℕ
  pub there : old.page number ≡ Some was
  pub used : is_free was ≡ false
  pub below : number < old.fields.pages
  pub page : List ℕ
  pub size : length page ≡ PAGE_SIZE
  pub header : IsHeader page (catalogue_header (length part) number next)
  pub held : take (length part) (content page) ≡ part
  pub replaces : ReplacesPage number page old new
