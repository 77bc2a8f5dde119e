-- Pages and their owners.
use Rattle.std.specs.Prelude.{◌≡◌, ◌<◌, ◌≤◌, ◌+◌, ℕ, List}
use Rattle.rs_pages.specs.PageMap.{PageMap}
use Rattle.rs_pages.specs.FreeList.{IsFreeList}
use Rattle.rs_page_owners.specs.Counts.{one_at, times, ◌&◌}

-- each page of the file is page 0, an owner's or a free one, and just one of these, and nobody has a page beyond
pub record Shares (map : PageMap) (used : ℕ → ℕ) : Type 0 where
  pub free : List ℕ
  pub list : IsFreeList map free
  pub within : (number : ℕ) → number < map.fields.pages → one_at 0 number + (used number + times free number) ≡ 1
  pub beyond : (number : ℕ) → map.fields.pages ≤ number → used number + times free number ≡ 0

-- the owner's pages have the bytes that they had, and there are no fewer pages
pub record KeepsPages (used : ℕ → ℕ) (old new : PageMap) : Type 0 where
  pub pages : (number : ℕ) → 0 < used number → new.page number ≡ old.page number
  pub no_fewer : old.fields.pages ≤ new.fields.pages

-- the same, and the catalogue is where it was
pub record Keeps (used : ℕ → ℕ) (old new : PageMap) : Type 0 where
  pub pages : (number : ℕ) → 0 < used number → new.page number ≡ old.page number
  pub no_fewer : old.fields.pages ≤ new.fields.pages
  pub catalogue : new.fields.catalogue ≡ old.fields.catalogue
  pub catalogue_length : new.fields.catalogue_length ≡ old.fields.catalogue_length

-- one owner's pages are others now. Whoever else has pages keeps them, and each page has one owner again
pub record MovesBeside (old new : PageMap) (before after others : ℕ → ℕ) : Type 0 where
  pub shares : Shares new (after & others)
  pub keeps : Keeps others old new

-- the same beside any other owners
pub record Moves (old new : PageMap) (before after : ℕ → ℕ) : Type 0 where
  pub beside : (others : ℕ → ℕ) → Shares old (before & others) → MovesBeside old new before after others
