-- What a cell that is put into a whole tree makes of it.
use Rattle.std.specs.Prelude.{◌≡◌, ◌↔◌, ℕ, Bool, false, List, Contains, IsTrue, Result, IfOk}
use Rattle.rs_refusal.specs.declared.refusal.Refusal.{Refusal}
use Rattle.rs_pages.specs.PageMap.{PageMap, SamePages}
use Rattle.rs_pages.specs.declared.pages.Pages.{Ghosts}
use Rattle.rs_tree.specs.Calls.{Changes}
use Rattle.rs_tree.specs.Cells.{with_cell}
use Rattle.rs_tree.specs.Form.{Form}
use Rattle.rs_tree.specs.Tree.{IsTree}
use Rattle.rs_tree_insert.specs.declared.roots.Inserted.{Inserted}

-- the tree has the cell, it is told whether it had not had it before, and where it had, nothing has changed
pub record IsInserted (form : Form) (old new : PageMap) (root to : ℕ) (cell : List ℕ) (is_new : Bool) : Type 0 where
  pub changes : Changes form old new root to (with_cell cell)
  pub found : (cells : List (List ℕ)) (used : ℕ → ℕ) → IsTree form old root cells used → (IsTrue is_new ↔ (Contains cells cell → ⊥))
  pub rests : is_new ≡ false → SamePages new old

-- so it is on the pages of an honest disk
abbrev pub Inserts : {P : Type 0} → Ghosts P → Form → ℕ → List ℕ → Result Inserted Refusal → P → P → Type 0
Inserts pages form root cell result old new =
    pages.is_tied old → IfOk result (λ answer. IsInserted form (pages.store old).map (pages.store new).map root answer.root cell answer.new)
