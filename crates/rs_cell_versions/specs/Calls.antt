-- What the calls that change cells with versions leave of the pages, do, and answer.
use Rattle.std.specs.Prelude.{◌≡◌, ◌↔◌, ℕ, Bool, false, List, [], Contains, IsTrue, Result, IfOk, OnOk, OnErr, drop, length}
use Rattle.rs_refusal.specs.declared.refusal.Refusal.{Refusal}
use Rattle.rs_pages.specs.PageMap.{PageMap, SamePages}
use Rattle.rs_pages.specs.declared.pages.Pages.{Ghosts}
use Rattle.rs_page_owners.specs.Calls as owners
use Rattle.rs_page_owners.specs.Counts.{◌&◌}
use Rattle.rs_page_owners.specs.Owners.{Shares}
use Rattle.rs_records.specs.Listed.{listed, record_width}
use Rattle.rs_records.specs.declared.cells.Cells.{Cells}
use Rattle.rs_tree.specs.Cells.{with_cell}
use Rattle.rs_tree.specs.Form.{Form}
use Rattle.rs_tree.specs.Forms.{form}
use Rattle.rs_tree.specs.declared.summary.Summary.{Ghosts as Summaries}
use Rattle.rs_cell_versions.specs.Changes.{Ends, cleared, without_cells}
use Rattle.rs_cell_versions.specs.Versioned.{ChangesCells, HoldsCells, HoldsNone, Standing, Versioned}

-- it is told whether the cell is one of those that stand there
abbrev pub TellsOf : Form → PageMap → Standing → List ℕ → Bool → Type 0
TellsOf form pages standing cell found =
    (cells : List (List ℕ)) (used others : ℕ → ℕ) → HoldsCells form pages standing cells used → Shares pages (used & others) → (IsTrue found ↔ Contains cells cell)

-- it is told whether the cell is none of them
abbrev pub TellsNew : Form → PageMap → Standing → List ℕ → Bool → Type 0
TellsNew form pages standing cell is_new =
    (cells : List (List ℕ)) (used others : ℕ → ℕ) → HoldsCells form pages standing cells used → Shares pages (used & others) → (IsTrue is_new ↔ (Contains cells cell → ⊥))

-- the cell is among the others, it is told whether it was not there before, and where it was, nothing has changed
pub record IsAdded (form : Form) (old new : PageMap) (was is : Versioned) (cell : List ℕ) (is_new : Bool) : Type 0 where
  pub changes : ChangesCells form old new was.working is.working (with_cell cell)
  pub tells : TellsNew form old was.working cell is_new
  pub rests : is_new ≡ false → SamePages new old × (is ≡ was)

-- the cell has ended at the version, and it is told whether it was there
pub record IsEnded (form : Form) (old new : PageMap) (was is : Versioned) (version : ℕ) (cell : List ℕ) (found : Bool) : Type 0 where
  pub ends : Ends form old new was.working is.working version cell
  pub tells : TellsOf form old was.working cell found

-- the first of the dead that no version from the oldest on sees, at most so many, were taken off the list and are answered
pub record TakesFirst (oldest most : ℕ) (was is : Versioned) (taken : Cells) : Type 0 where
  pub cells : listed taken ≡ cleared oldest most was.working.dead
  pub width : record_width taken ≡ was.width
  pub rest : is.working.dead ≡ drop (length (cleared oldest most was.working.dead)) was.working.dead

-- the width of the cells and what stood there at the last commit stay; after a refusal the cells are as they were
pub record KeepsCells {T : Type 0} (result : Result T Refusal) (was is : Versioned) : Type 0 where
  pub width : is.width ≡ was.width
  pub committed : is.committed ≡ was.committed
  pub stays : OnErr result (is ≡ was)

module _ {P S : Type 0} (pages : Ghosts P) (summaries : Summaries S) (was : Versioned) where
  -- what is left on any disk: 94 comes only where no such cells stand there with pages of their own
  abbrev pub Leaves : {T : Type 0} → Result T Refusal → P → P → Type 0
  Leaves result old new = owners.Leaves pages (HoldsNone (form summaries was.width) (pages.store old).map was.working) result old new

  -- what the calls do on the pages of an honest disk
  abbrev pub Adds : Versioned → List ℕ → Result Bool Refusal → P → P → Type 0
  Adds is cell result old new = pages.is_tied old
      → IfOk result (IsAdded (form summaries was.width) (pages.store old).map (pages.store new).map was is cell)

  abbrev pub Kills : Versioned → ℕ → List ℕ → Result Bool Refusal → P → P → Type 0
  Kills is version cell result old new = pages.is_tied old
      → IfOk result (IsEnded (form summaries was.width) (pages.store old).map (pages.store new).map was is version cell)

  abbrev pub Vacuums : Versioned → ℕ → ℕ → Result Cells Refusal → P → P → Type 0
  Vacuums is oldest most result old new = pages.is_tied old
      → OnOk result (ChangesCells (form summaries was.width) (pages.store old).map (pages.store new).map was.working is.working
      (without_cells (cleared oldest most was.working.dead)))

  abbrev pub Clears : Versioned → Result (Unit {0}) Refusal → P → P → Type 0
  Clears is result old new = pages.is_tied old
      → OnOk result (ChangesCells (form summaries was.width) (pages.store old).map (pages.store new).map was.working is.working (λ _. []))
