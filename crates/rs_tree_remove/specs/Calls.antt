-- What a cell that is taken out of a whole tree leaves of it.
use Rattle.std.specs.Prelude.{◌↔◌, ℕ, Bool, List, Contains, IsTrue, Result, IfOk}
use Rattle.rs_refusal.specs.declared.refusal.Refusal.{Refusal}
use Rattle.rs_pages.specs.PageMap.{PageMap}
use Rattle.rs_pages.specs.declared.pages.Pages.{Ghosts}
use Rattle.rs_page_owners.specs.Counts.{◌&◌}
use Rattle.rs_page_owners.specs.Owners.{Shares}
use Rattle.rs_tree.specs.Calls.{Changes}
use Rattle.rs_tree.specs.Cells.{without_cell}
use Rattle.rs_tree.specs.Form.{Form}
use Rattle.rs_tree.specs.Tree.{IsTree}

-- it is told whether the tree had this cell
pub record TellsOf (form : Form) (pages : PageMap) (root : ℕ) (cell : List ℕ) (found : Bool) : Type 0 where
  pub each : (cells : List (List ℕ)) (used others : ℕ → ℕ) → IsTree form pages root cells used → Shares pages (used & others) → (IsTrue found ↔ Contains cells cell)

-- the tree has all other cells, and it is told whether it had this one
pub record IsTakenOut (form : Form) (old new : PageMap) (root to : ℕ) (cell : List ℕ) (found : Bool) : Type 0 where
  pub changes : Changes form old new root to (without_cell cell)
  pub tells : TellsOf form old root cell found

-- so it is on the pages of an honest disk
abbrev pub Removes : {P : Type 0} → Ghosts P → Form → ℕ → List ℕ → Result (ℕ × Bool) Refusal → P → P → Type 0
Removes pages form root cell result old new =
    pages.is_tied old → IfOk result (λ answer. IsTakenOut form (pages.store old).map (pages.store new).map root answer.0 cell answer.1)
