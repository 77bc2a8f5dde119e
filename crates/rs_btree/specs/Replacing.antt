-- What becomes of a tree where one cell is put in the place of another.
use Rattle.std.specs.Prelude.{ℕ, List, Contains}
use Rattle.rs_page_owners.specs.Counts.{◌&◌}
use Rattle.rs_page_owners.specs.Owners.{Shares}
use Rattle.rs_pages.specs.PageMap.{PageMap}
use Rattle.rs_tree.specs.Calls.{Becomes}
use Rattle.rs_tree.specs.Cells.{with_cell, without_cell}
use Rattle.rs_tree.specs.Form.{Form}
use Rattle.rs_tree.specs.Tree.{IsTree}

-- where a tree stands there, whose pages are shared with other owners and a free list, another takes its place: with the other
-- cell where it had the one, with the same cells where it had not
pub record Replaces (form : Form) (old new : PageMap) (root to : ℕ) (one other : List ℕ) : Type 0 where
  pub there : (cells : List (List ℕ)) (used others : ℕ → ℕ) → IsTree form old root cells used → Shares old (used & others)
      → Contains cells one → Becomes form old new to used (with_cell other (without_cell one cells))
  pub missing : (cells : List (List ℕ)) (used others : ℕ → ℕ) → IsTree form old root cells used → Shares old (used & others)
      → (Contains cells one → ⊥) → Becomes form old new to used cells
