-- What marking the free list answers. Pages are told by how often they were reached before and after it.
use Rattle.std.specs.Prelude.{◌≡◌, ◌≤◌, ℕ, List}
use Rattle.rs_page_owners.specs.Counts.{◌&◌, times}
use Rattle.rs_pages.specs.FreeList.{IsFreeList}
use Rattle.rs_pages.specs.PageMap.{PageMap}

-- these are the free pages, and each was reached once more
pub record ReachesFree (map : PageMap) (before after : ℕ → ℕ) : Type 0 where
  pub free : List ℕ
  pub list : IsFreeList map free
  pub reached : (number : ℕ) → after number ≡ (before & times free) number

-- no pages that weren't reached before are the free list
pub record HasNoFreshFreeList (map : PageMap) (before : ℕ → ℕ) : Type 0 where
  pub none : (free : List ℕ) → IsFreeList map free → ((number : ℕ) → (before & times free) number ≤ 1) → ⊥
