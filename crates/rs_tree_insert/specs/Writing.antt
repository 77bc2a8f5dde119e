-- Records of a page that take the place of others, in one page or two.
use Rattle.std.specs.Prelude.{◌≡◌, ◌⊎◌, ◌<◌, ◌≤◌, ◌+◌, ℕ, Bool, true, false, Some, List, ◌++◌, length, take, drop}
use Rattle.rs_page.specs.declared.header.PageKind.{PageKind}
use Rattle.rs_pages.specs.PageMap.{PageMap, HasNoFit}
use Rattle.rs_records.specs.Records.{records}
use Rattle.rs_page_owners.specs.Counts.{one_at, ◌&◌}
use Rattle.rs_page_owners.specs.Owners.{Moves}
use Rattle.rs_tree.specs.Content.{content}
use Rattle.rs_tree_edit.specs.Editing.{Lists, Splices, HasNoFreeList}
use Rattle.rs_tree_insert.specs.declared.answer.Put.{Put}
use Rattle.rs_tree_insert.specs.declared.answer.Put.TheVariants as put

-- some of a list from a place on gave way to others
abbrev pub spliced : List (List ℕ) → ℕ → ℕ → List (List ℕ) → List (List ℕ)
spliced rs at removed added = take at rs ++ (added ++ drop (at + removed) rs)

-- no page in use fits the number, or no list is the free list
abbrev pub IsBroken : PageMap → ℕ → Type 0
IsBroken map number = HasNoFit map number ⊎ HasNoFreeList map

-- the page has the first of these records, and a new one the rest: two at least each
pub record SplitsPage (old new : PageMap) (number other : ℕ) (kind : PageKind) (width : ℕ) (rs : List (List ℕ)) : Type 0 where
  pub staying : ℕ
  pub some : 2 ≤ staying
  pub some_more : staying + 2 ≤ length rs
  pub after : 1 < other
  pub below : number < new.fields.pages
  pub below_too : other < new.fields.pages
  pub first : List ℕ
  pub second : List ℕ
  pub there : new.page number ≡ Some first
  pub there_too : new.page other ≡ Some second
  pub lists : Lists first kind number width (take staying rs)
  pub lists_too : Lists second kind other width (drop staying rs)
  pub moves : Moves old new (one_at number) (one_at number & one_at other)

-- the cell was there
abbrev pub is_found : Put → Bool
is_found put.Found = true
is_found put.Placed = false
is_found put.Kept = false
is_found (put.Split other) = false

-- in one page or two
pub record PutsRecords (old new : PageMap) (number : ℕ) (page : List ℕ) (kind : PageKind) (width count at removed : ℕ) (added : List (List ℕ)) (answer : Put) : Type 0 where
  pub placed : is_found answer ≡ false
  pub written : answer ≡ put.Kept → ⊥
  pub one : answer ≡ put.Placed → Splices old new number kind width count at removed added
  pub two : (other : ℕ) → answer ≡ put.Split other → SplitsPage old new number other kind width (spliced (records count width (content page)) at removed added)
