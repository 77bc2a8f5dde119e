-- What the steps of a look at cells leave.
use Rattle.std.specs.Prelude.{◌≡◌, ◌≤◌, ◌+◌, ◌++◌, ℕ, Err, IfOk, IsTrue, List, OnOk, Result, Vec, count_by, filter, length, not}
use Rattle.std.specs.List.{AllByRecursion}
use Rattle.std.specs.declared.alloc.Global.{Global}
use Rattle.rs_refusal.specs.declared.refusal.Refusal.{Refusal}
use Rattle.rs_refusal.specs.declared.refusal.Refusal.TheVariants as refusal
use Rattle.rs_pages.specs.PageMap.{PageMap}
use Rattle.rs_pages.specs.declared.pages.Pages.{Ghosts}
use Rattle.rs_records.specs.Listed.{listed}
use Rattle.rs_records.specs.Order.{is_below}
use Rattle.rs_records.specs.declared.cells.Cells.{Cells}
use Rattle.rs_tree.specs.Form.{Form}
use Rattle.rs_tree.specs.Forms.{form}
use Rattle.rs_tree.specs.Tree.{IsNoTree, IsTree}
use Rattle.rs_tree.specs.declared.summary.Summary.{Ghosts as Summaries}
use Rattle.rs_cell_versions.specs.Opening.{HasCounted, HasPassed, Looked, StandsOtherwise}
use Rattle.rs_cell_versions.specs.Version.{IsDated, died_of, is_dead, is_living}

-- up to which version cells are dated, how many living and dead ones are still to come, and the dead ones that came
pub record Tallied : Type 0 where
  pub accepted : ℕ
  pub living_left : ℕ
  pub garbage_left : ℕ
  pub dead : List (List ℕ)

-- of so many dead cells those are listed that came, and none died after the version that was accepted last
pub record HoldsTally (all : Tallied) (garbage : ℕ) : Type 0 where
  pub counted : length all.dead + all.garbage_left ≡ garbage
  pub died : AllByRecursion (λ dead. died_of dead ≤ all.accepted) all.dead

-- the cells are dated and were counted, and the dead ones among them are listed after the others
pub record Counts (old new : Tallied) (cells : List (List ℕ)) : Type 0 where
  pub accepted : new.accepted ≡ old.accepted
  pub dated : AllByRecursion (IsDated old.accepted) cells
  pub living : count_by is_living cells + new.living_left ≡ old.living_left
  pub garbage : count_by is_dead cells + new.garbage_left ≡ old.garbage_left
  pub dead : new.dead ≡ old.dead ++ filter is_dead cells

-- the cells are not those that are to come: one is not dated, or more of them live or are dead
pub record AreOthers (old : Tallied) (cells : List (List ℕ)) : Type 0 where
  pub none : AllByRecursion (IsDated old.accepted) cells → count_by is_living cells ≤ old.living_left
      → count_by is_dead cells ≤ old.garbage_left → ⊥

-- all cells are below the bound, whatever tree stands there
pub record IsAbove (form : Form) (pages : PageMap) (root : ℕ) (bound : List ℕ) : Type 0 where
  pub each : (cells : List (List ℕ)) (used : ℕ → ℕ) → IsTree form pages root cells used
      → AllByRecursion (λ cell. IsTrue (is_below cell bound)) cells

-- such a bound was found; 94 is answered only where no tree stands there
pub record BoundsOn (form : Form) (pages : PageMap) (root : ℕ) (result : Result (Vec ℕ Global) Refusal) : Type 0 where
  pub above : IfOk result (λ bound. IsAbove form pages root bound.items)
  pub damaged : result ≡ Err refusal.DamagedFile → IsNoTree form pages root

-- so it is on the pages of an honest disk
abbrev pub Bounds : {P : Type 0} → Ghosts P → Form → ℕ → Result (Vec ℕ Global) Refusal → P → Type 0
Bounds pages form root result old = pages.is_tied old → BoundsOn form (pages.store old).map root result

-- all cells were looked at, whatever tree stands there
pub record HasPassedAll (form : Form) (pages : PageMap) (looked : Looked) : Type 0 where
  pub each : (cells : List (List ℕ)) (used : ℕ → ℕ) → IsTree form pages looked.told.root cells used → HasCounted looked cells

-- the cells that are left are found. Where those below had been looked at, so have been all then, and 94 is answered only where no
-- cells stand there as they were told
pub record GoesToEndOn (form : Form) (pages : PageMap) (was is : Looked) (result : Result Cells Refusal) : Type 0 where
  pub left : IfOk result (λ left. (cells : List (List ℕ)) (used : ℕ → ℕ) → IsTree form pages was.told.root cells used
      → listed left ≡ filter (λ cell. not (is_below cell was.low)) cells)
  pub passed : HasPassed form pages was → OnOk result (HasPassedAll form pages is)
  pub damaged : result ≡ Err refusal.DamagedFile → HasPassed form pages was → StandsOtherwise form pages was.told

-- so it is on the pages of an honest disk
abbrev pub GoesToEnd : {P S : Type 0} → Ghosts P → Summaries S → Looked → Looked → Result Cells Refusal → P → Type 0
GoesToEnd pages summaries was is result old = pages.is_tied old → GoesToEndOn (form summaries was.told.width) (pages.store old).map was is result
