-- What the calls that look, part by part, at cells that lie in a tree already find and answer.
use Rattle.std.specs.Prelude.{◌≡◌, ◌⊎◌, ℕ, Err, List, [], Result, IfErr, IfOk, OnOk, filter, length, not}
use Rattle.std.specs.List.{AllByRecursion}
use Rattle.rs_refusal.specs.declared.refusal.Refusal.{Refusal}
use Rattle.rs_refusal.specs.declared.refusal.Refusal.TheVariants as refusal
use Rattle.rs_pages.specs.PageMap.{PageMap}
use Rattle.rs_pages.specs.declared.pages.Pages.{Ghosts}
use Rattle.rs_records.specs.Listed.{listed, record_width}
use Rattle.rs_records.specs.Order.{is_below}
use Rattle.rs_records.specs.declared.cells.Cells.{Cells}
use Rattle.rs_tree.specs.Cells.{cells_within}
use Rattle.rs_tree.specs.Form.{Form}
use Rattle.rs_tree.specs.Forms.{form}
use Rattle.rs_tree.specs.Tree.{IsTree}
use Rattle.rs_tree.specs.declared.summary.Summary.{Ghosts as Summaries}
use Rattle.rs_btree.specs.Validating.{HasNoFreshTree, Validates}
use Rattle.rs_cell_versions.specs.declared.told.ToldRecords.{ToldRecords}
use Rattle.rs_cell_versions.specs.Opening.{HasPassed, Looked, StandsOtherwise, StandsTold, Told, told_of}
use Rattle.rs_cell_versions.specs.Version.{HaveDiedBy, IsDated}
use Rattle.rs_cell_versions.specs.Versioned.{Versioned}

-- none of the cells that are told was looked at, whatever the pages are
pub record IsBegun (form : Form) (width : ℕ) (said : ToldRecords) (looked : Looked) : Type 0 where
  pub told : looked.told ≡ told_of width said
  pub low : looked.low ≡ []
  pub passed : (pages : PageMap) → HasPassed form pages looked

-- cells of the width that is told, dated up to the version that was accepted
pub record AreDatedCells (told : Told) (cells : Cells) : Type 0 where
  pub width : record_width cells ≡ told.width
  pub dated : AllByRecursion (IsDated told.accepted) (listed cells)

-- cells whose width, root and counts are those that were told, whatever the pages are: nothing has changed since the last commit, and
-- none died after the version that was told as accepted
pub record AreTold (told : Told) (cells : Versioned) : Type 0 where
  pub width : cells.width ≡ told.width
  pub root : cells.working.root ≡ told.root
  pub living : cells.working.living ≡ told.living
  pub garbage : length cells.working.dead ≡ told.garbage
  pub order : HaveDiedBy told.accepted cells.working.dead
  pub committed : cells.committed ≡ cells.working

-- a tree stands there, and each of its pages was reached once more; 94 is answered only where none stands there in pages that weren't
-- reached before
pub record BeginsOn (form : Form) (pages : PageMap) (root : ℕ) (before after : ℕ → ℕ) (result : Result Looked Refusal) : Type 0 where
  pub validates : OnOk result (Validates form pages root before after)
  pub damaged : result ≡ Err refusal.DamagedFile → HasNoFreshTree form pages root before

-- the cells of the part are found. Where those below it had been looked at, so have been those below its end then, and 94 is answered
-- only where no cells stand there as they were told
pub record PartsOn (form : Form) (pages : PageMap) (was is : Looked) (high : List ℕ) (result : Result Cells Refusal) : Type 0 where
  pub found : IfOk result (λ found. (cells : List (List ℕ)) (used : ℕ → ℕ) → IsTree form pages was.told.root cells used → listed found ≡ cells_within was.low high cells)
  pub passed : HasPassed form pages was → OnOk result (HasPassed form pages is)
  pub damaged : result ≡ Err refusal.DamagedFile → HasPassed form pages was → StandsOtherwise form pages was.told

-- the cells that are left are found. Where those below had been looked at, all cells stand there as they were told, and 94 is answered
-- only where none do
pub record FinishesOn (form : Form) (pages : PageMap) (was : Looked) (result : Result (Versioned × Cells) Refusal) : Type 0 where
  pub left : IfOk result (λ answer. (cells : List (List ℕ)) (used : ℕ → ℕ) → IsTree form pages was.told.root cells used
      → listed answer.1 ≡ filter (λ cell. not (is_below cell was.low)) cells)
  pub stands : HasPassed form pages was → IfOk result (λ answer. (cells : List (List ℕ)) (used : ℕ → ℕ) → IsTree form pages was.told.root cells used
      → StandsTold form pages was.told answer.0.working.dead cells used)
  pub damaged : result ≡ Err refusal.DamagedFile → HasPassed form pages was → StandsOtherwise form pages was.told

-- so it is on the pages of an honest disk
module _ {P S : Type 0} (pages : Ghosts P) (summaries : Summaries S) where
  abbrev pub Begins : ℕ → ToldRecords → (ℕ → ℕ) → (ℕ → ℕ) → Result Looked Refusal → P → Type 0
  Begins width told before after result old = pages.is_tied old → BeginsOn (form summaries width) (pages.store old).map told.root before after result

  abbrev pub Parts : Looked → Looked → List ℕ → Result Cells Refusal → P → Type 0
  Parts was is high result old = pages.is_tied old → PartsOn (form summaries was.told.width) (pages.store old).map was is high result

  abbrev pub Finishes : Looked → Result (Versioned × Cells) Refusal → P → Type 0
  Finishes was result old = pages.is_tied old → FinishesOn (form summaries was.told.width) (pages.store old).map was result

-- why a look is refused: 90, 91 or 94
abbrev pub RefusesLook : {T : Type 0} → Result T Refusal → Type 0
RefusesLook result = IfErr result (λ why. (why ≡ refusal.OutOfMemory) ⊎ (why ≡ refusal.Disk) ⊎ (why ≡ refusal.DamagedFile))
