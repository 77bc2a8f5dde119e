-- What the calls of a table of records leave of the pages, do, and answer, however the records are kept.
use Rattle.std.specs.Prelude.{◌≡◌, ◌↔◌, ◌<◌, ◌≤◌, ℕ, Bool, false, List, [], Contains, IsTrue, Result, IfOk, OnOk, OnErr, count_by, filter, length, min, nat_le}
use Rattle.std.specs.List.{AllZip}
use Rattle.rs_refusal.specs.declared.refusal.Refusal.{Refusal}
use Rattle.rs_page_owners.specs.Calls as owners
use Rattle.rs_page_owners.specs.Counts.{◌&◌}
use Rattle.rs_page_owners.specs.Owners.{Shares}
use Rattle.rs_pages.specs.PageMap.{PageMap, SamePages}
use Rattle.rs_pages.specs.declared.pages.Pages.{Ghosts}
use Rattle.rs_records.specs.Listed.{listed, record_width}
use Rattle.rs_records.specs.declared.cells.Cells.{Cells}
use Rattle.rs_tree.specs.Calls as tree
use Rattle.rs_tree.specs.Cells.{with_cell}
use Rattle.rs_cell_versions.specs.Changes.{Ends, cleared, without_cells}
use Rattle.rs_cell_versions.specs.Versioned.{ChangesCells, HoldsNone, Standing}
use Rattle.rs_cell_versions.specs.declared.cell.TheConstants.{LIVING}
use Rattle.rs_versioned.specs.Records.{ChangesRecords, HasCleared, HasEnded, HasNone, HasOneMore, HoldsRecords, Kept}
use Rattle.rs_versioned.specs.Tables.{TableState}

-- it is told whether the record is one of those that lie there
abbrev pub TellsOf : {R : Type 0} → Kept R → PageMap → Standing → R → Bool → Type 0
TellsOf {R = R} kept pages standing one found =
    (records : List R) (used others : ℕ → ℕ) (accepted : ℕ) → HoldsRecords kept pages standing accepted records used → Shares pages (used & others) → (IsTrue found ↔ Contains records one)

-- it is told whether the record is none of them
abbrev pub TellsNew : {R : Type 0} → Kept R → PageMap → Standing → R → Bool → Type 0
TellsNew {R = R} kept pages standing one is_new =
    (records : List R) (used others : ℕ → ℕ) (accepted : ℕ) → HoldsRecords kept pages standing accepted records used → Shares pages (used & others) → (IsTrue is_new ↔ (Contains records one → ⊥))

-- from its birth on versions see the record, whose cell has come among the others. It is told whether it was not there before,
-- and where it was, nothing has changed, the table included
pub record IsAdded {R T : Type 0} (kept : Kept R) (old new : PageMap) (was is : Standing) (table now : T) (one : R) (is_new : Bool) : Type 0 where
  pub changes : (accepted : ℕ) → accepted ≤ kept.born one → ChangesRecords kept old new was is accepted (kept.born one) (HasOneMore one)
  pub cells : (cell : List ℕ) → kept.says cell one → ChangesCells kept.form old new was is (with_cell cell)
  pub tells : TellsNew kept old was one is_new
  pub rests : is_new ≡ false → SamePages new old × (now ≡ table)

-- the record of the cell has ended at the version, as the cell has, whichever version was accepted, and whichever from that one and this one on is accepted
-- last, and it is told whether it was there
pub record IsEnded {R : Type 0} (kept : Kept R) (old new : PageMap) (was is : Standing) (version : ℕ) (cell : List ℕ) (found : Bool) : Type 0 where
  pub changes : (accepted last : ℕ) (one : R) → accepted ≤ last → version ≤ last → kept.says cell one
      → ChangesRecords kept old new was is accepted last (HasEnded kept version one)
  pub ends : Ends kept.form old new was is version cell
  pub tells : (one : R) → kept.says cell one → TellsOf kept old was one found

-- the records of the cells that were taken are gone, and no version from the oldest on saw one of them. They are all such
-- records, or as many as were asked for
pub record IsVacuumed {R : Type 0} (kept : Kept R) (old new : PageMap) (was is : Standing) (oldest most : ℕ) (taken : Cells) : Type 0 where
  pub changes : (accepted : ℕ) → ChangesRecords kept old new was is accepted accepted (HasCleared kept oldest (listed taken))
  pub cells : ChangesCells kept.form old new was is (without_cells (cleared oldest most was.dead))
  pub as_many : (records : List R) (used : ℕ → ℕ) (accepted : ℕ) → HoldsRecords kept old was accepted records used
      → oldest < LIVING → length (listed taken) ≡ min most (count_by (λ one. nat_le (kept.died one) oldest) records)

-- those of the dead that no version from the oldest on sees and that died first, at most so many, of this width
pub record TakesFirst (wide oldest most : ℕ) (was : Standing) (taken : Cells) : Type 0 where
  pub cells : listed taken ≡ cleared oldest most was.dead
  pub width : record_width taken ≡ wide

-- no record and no cell is left
pub record IsCleared {R : Type 0} (kept : Kept R) (old new : PageMap) (was is : Standing) : Type 0 where
  pub changes : (accepted : ℕ) → ChangesRecords kept old new was is accepted accepted HasNone
  pub cells : ChangesCells kept.form old new was is (λ _. [])

-- the types and what stood there at the last commit stay; after a refusal the table is as it was
pub record KeepsTable {A T : Type 0} (result : Result A Refusal) (was is : TableState T) : Type 0 where
  pub types : is.types ≡ was.types
  pub committed : is.committed ≡ was.committed
  pub stays : OnErr result (is ≡ was)

module _ {P T R : Type 0} (pages : Ghosts P) (kept : T → Kept R) (was : TableState T) where
  -- what a call that changes the table leaves on any disk: 94 comes only where no such records lie there with pages of their own
  abbrev pub Leaves : {A : Type 0} → Result A Refusal → P → P → Type 0
  Leaves result old new = owners.Leaves pages (HoldsNone (kept was.types).form (pages.store old).map was.working) result old new

  -- why a call that reads the table is refused: 94 only where no tree stands there
  abbrev pub RefusesReading : {A : Type 0} → Result A Refusal → P → P → Type 0
  RefusesReading result old new = tree.RefusesReading pages (kept was.types).form was.working.root result old new

  -- what the calls do and answer on the pages of an honest disk
  abbrev pub Adds : TableState T → R → Result Bool Refusal → P → P → Type 0
  Adds is one result old new = pages.is_tied old
      → IfOk result (IsAdded (kept was.types) (pages.store old).map (pages.store new).map was.working is.working was is one)

  abbrev pub AddsCell : TableState T → List ℕ → Result Bool Refusal → P → P → Type 0
  AddsCell is cell result old new = pages.is_tied old → IfOk result (λ is_new. (one : R) → (kept was.types).says cell one
      → IsAdded (kept was.types) (pages.store old).map (pages.store new).map was.working is.working was is one is_new)

  abbrev pub Kills : TableState T → ℕ → List ℕ → Result Bool Refusal → P → P → Type 0
  Kills is version cell result old new = pages.is_tied old
      → IfOk result (IsEnded (kept was.types) (pages.store old).map (pages.store new).map was.working is.working version cell)

  -- those that pass the test, in their order
  abbrev pub Sees : (R → Bool) → Result Cells Refusal → P → Type 0
  Sees test result old = pages.is_tied old → IfOk result (λ found. (records : List R) (used : ℕ → ℕ) (accepted : ℕ)
      → HoldsRecords (kept was.types) (pages.store old).map was.working accepted records used
      → AllZip (kept was.types).says (listed found) (filter test records))

  abbrev pub Vacuums : TableState T → ℕ → ℕ → Result Cells Refusal → P → P → Type 0
  Vacuums is oldest most result old new = pages.is_tied old
      → IfOk result (IsVacuumed (kept was.types) (pages.store old).map (pages.store new).map was.working is.working oldest most)

  abbrev pub Clears : TableState T → Result (Unit {0}) Refusal → P → P → Type 0
  Clears is result old new = pages.is_tied old
      → OnOk result (IsCleared (kept was.types) (pages.store old).map (pages.store new).map was.working is.working)
