-- What the calls on a whole tree answer and do.
use Rattle.std.specs.Prelude.{◌≡◌, ◌⊎◌, ℕ, List, Result, Err, IfOk, IfErr, OnOk, length}
use Rattle.rs_refusal.specs.declared.refusal.Refusal.{Refusal}
use Rattle.rs_refusal.specs.declared.refusal.Refusal.TheVariants as refusal
use Rattle.rs_pages.specs.PageMap.{PageMap}
use Rattle.rs_pages.specs.declared.pages.Pages.{Ghosts}
use Rattle.rs_page_owners.specs.Counts.{no_pages}
use Rattle.rs_page_owners.specs.Owners.{Moves}
use Rattle.rs_tree.specs.Form.{Form}
use Rattle.rs_tree.specs.Tree.{IsTree}
use Rattle.rs_tree_whole.specs.Validating.{Validates, HasNoFreshTree}

-- a tree was found exactly where one stands none of whose pages was reached before, and its cells were counted; pages are told
-- by how often they were reached before and after it
pub record IsChecked (form : Form) (pages : PageMap) (root : ℕ) (before after : ℕ → ℕ) (result : Result ℕ Refusal) : Type 0 where
  pub validates : OnOk result (Validates form pages root before after)
  pub counted : IfOk result (λ count. (cells : List (List ℕ)) (used : ℕ → ℕ) → IsTree form pages root cells used → count ≡ length cells)
  pub damaged : result ≡ Err refusal.DamagedFile → HasNoFreshTree form pages root before

-- so it is on the pages of an honest disk
abbrev pub Checks : {P : Type 0} → Ghosts P → Form → ℕ → (ℕ → ℕ) → (ℕ → ℕ) → Result ℕ Refusal → P → Type 0
Checks pages form root before after result old = pages.is_tied old → IsChecked form (pages.store old).map root before after result

-- why a tree is not found to be whole
abbrev pub RefusesToCheck : Result ℕ Refusal → Type 0
RefusesToCheck result = IfErr result (λ why. (why ≡ refusal.Disk) ⊎ (why ≡ refusal.DamagedFile))

-- the pages of the tree that stands there are free now, on those of an honest disk
abbrev pub Clears : {P : Type 0} → Ghosts P → Form → ℕ → Result (Unit {0}) Refusal → P → P → Type 0
Clears pages form root result old new = pages.is_tied old → OnOk result ((cells : List (List ℕ)) (used : ℕ → ℕ)
    → IsTree form (pages.store old).map root cells used → Moves (pages.store old).map (pages.store new).map used no_pages)
