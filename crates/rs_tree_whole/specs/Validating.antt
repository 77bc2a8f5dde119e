-- What the check of a whole tree answers. Pages are told by how often they were reached before and after it.
use Rattle.std.specs.Prelude.{◌≡◌, ◌≤◌, ℕ, List}
use Rattle.rs_pages.specs.PageMap.{PageMap}
use Rattle.rs_page_owners.specs.Counts.{◌&◌}
use Rattle.rs_tree.specs.Form.{Form}
use Rattle.rs_tree.specs.Tree.{IsTree}

-- a well formed tree stands there, and each of its pages was reached once more
pub record Validates (form : Form) (pages : PageMap) (root : ℕ) (before after : ℕ → ℕ) : Type 0 where
  pub cells : List (List ℕ)
  pub used : ℕ → ℕ
  pub tree : IsTree form pages root cells used
  pub reached : (number : ℕ) → after number ≡ (before & used) number

-- no well formed tree stands there none of whose pages was reached before
pub record HasNoFreshTree (form : Form) (pages : PageMap) (root : ℕ) (before : ℕ → ℕ) : Type 0 where
  pub none : (cells : List (List ℕ)) (used : ℕ → ℕ) → IsTree form pages root cells used
      → ((number : ℕ) → (before & used) number ≤ 1) → ⊥
