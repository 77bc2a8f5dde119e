-- What the functions of this crate that change pages hand to one another. No clause of another crate speaks of it.
use Rattle.std.specs.Prelude.{◌≡◌, ◌≤◌, ◌⊎◌, ℕ, IsPermutation, List, ◌++◌, OnOk, Result}
use Rattle.std.specs.List.{AllByRecursion, AllZip}
use Rattle.rs_attr.specs.Tables.{ChangesTable, HoldsTable, IndexState, all_of}
use Rattle.rs_cell_versions.specs.Versioned.{Standing}
use Rattle.rs_cell_versions.specs.declared.cell.TheConstants.{LIVING}
use Rattle.rs_facts.specs.Runs.{Stretch}
use Rattle.rs_file.specs.declared.opened.OpenedTable.{OpenedTable}
use Rattle.rs_page_owners.specs.Calls as owners
use Rattle.rs_page_owners.specs.Counts.{◌&◌}
use Rattle.rs_page_owners.specs.Owners.{Shares}
use Rattle.rs_pages.specs.PageMap.{PageMap}
use Rattle.rs_pages.specs.declared.pages.Pages.{Ghosts}
use Rattle.rs_refusal.specs.declared.refusal.Refusal.{Refusal}
use Rattle.rs_value.specs.declared.column.ColumnType.{ColumnType}
use Rattle.rs_versioned.specs.Events.{Event, SaysEvent, kept_events}
use Rattle.rs_versioned.specs.Records.{HasEnded}
use Rattle.rs_table_changes.specs.Chains.{ComeAll, EndAll, GivesWayAt}
use Rattle.rs_table_changes.specs.declared.moment.Moment.{Moment}

-- Events end at the version, or at 0, which takes them out: that may be where no version before it is to see them.
abbrev pub EndsSo : ℕ → ℕ → ℕ → Type 0
EndsSo at version oldest = (at ≡ version) ⊎ ((at ≡ 0) × (version ≤ oldest))

-- living events of these cells are among those of the table
pub record HasThese (types : List ColumnType) (cells : List (List ℕ)) (events : List Event) : Type 0 where
  pub these : List Event
  pub others : List Event
  pub say : AllZip (SaysEvent types) cells these
  pub live : AllByRecursion (λ one. one.died ≡ LIVING) these
  pub are : IsPermutation events (these ++ others)

-- no table with its indexes, dated up to the version at the latest, lies there so with living events of these cells
pub record HoldsNoTableWith (version : ℕ) (cells : List (List ℕ)) (types : List ColumnType) (pages : PageMap) (standing : Standing) (indexes : List IndexState) : Type 0 where
  pub none : (accepted : ℕ) (events : List Event) (used : ℕ → ℕ) (uses : List (ℕ → ℕ)) (others : ℕ → ℕ) → accepted ≤ version
      → HoldsTable types pages standing indexes accepted events used uses → Shares pages (used & all_of uses & others) → HasThese types cells events → ⊥

-- what the steps of a change leave on any disk
abbrev pub LeavesWith : {P T : Type 0} → Ghosts P → OpenedTable → ℕ → List (List ℕ) → Result T Refusal → P → P → Type 0
LeavesWith pages was version cells result old new =
    owners.Leaves pages (HoldsNoTableWith version cells was.records.types (pages.store old).map was.records.working was.indexes.items) result old new

module _ (old new : PageMap) (was is : OpenedTable) (version : ℕ) where
  -- so the table in the pages has changed at the version
  abbrev pub ChangesNow : (List Event → List Event → Type 0) → Type 0
  ChangesNow = ChangesTable was.records.types old new was.records.working is.records.working was.indexes.items is.indexes.items version version

  -- the event of the cell has ended, at this version or, where it is 0, so that it is gone
  abbrev pub EndedOne : ℕ → List ℕ → Type 0
  EndedOne at cell = (one : Event) → SaysEvent was.records.types cell one → ChangesNow (HasEnded (kept_events was.records.types) at one)

  -- so have the events of these cells
  abbrev pub Ended : ℕ → List (List ℕ) → Type 0
  Ended at cells = (gone : List Event) → AllZip (SaysEvent was.records.types) cells gone → ChangesNow (EndAll was.records.types at gone)

  -- the events of the cells have ended so, and the spans have come
  abbrev pub Made : ℕ → ℕ → List (List ℕ) → List Stretch → Type 0
  Made at route cells come = (gone : List Event) → AllZip (SaysEvent was.records.types) cells gone
      → ChangesNow (GivesWayAt was.records.types at version route gone come)

-- so it is on the pages of an honest disk
module _ {P : Type 0} (pages : Ghosts P) (was is : OpenedTable) where
  abbrev pub EndsOne : ℕ → ℕ → List ℕ → Result (Unit {0}) Refusal → P → P → Type 0
  EndsOne version at cell result old new = pages.is_tied old → OnOk result (EndedOne (pages.store old).map (pages.store new).map was is version at cell)

  abbrev pub EndsEach : ℕ → ℕ → List (List ℕ) → Result (Unit {0}) Refusal → P → P → Type 0
  EndsEach version at cells result old new = pages.is_tied old → OnOk result (Ended (pages.store old).map (pages.store new).map was is version at cells)

  abbrev pub AddsEach : ℕ → ℕ → List Stretch → Result (Unit {0}) Refusal → P → P → Type 0
  AddsEach version route come result old new = pages.is_tied old
      → OnOk result (ChangesNow (pages.store old).map (pages.store new).map was is version (ComeAll route version come))

  -- the version at which the events end is one of those that the moment allows
  abbrev pub Makes : Moment → ℕ → List (List ℕ) → List Stretch → Result (Unit {0}) Refusal → P → P → Type 0
  Makes moment route cells come result old new = pages.is_tied old → OnOk result ((at : ℕ) × EndsSo at moment.version moment.oldest
      × Made (pages.store old).map (pages.store new).map was is moment.version at route cells come)
