-- What the functions that clear a file, end a referent, keep what was changed, or take it back hand to one another.
use Rattle.std.specs.Prelude.{◌≡◌, ◌<◌, ◌≤◌, ◌+◌, ◌-◌, ℕ, IsTrue, List, Some, length, min, slice_get}
use Rattle.std.specs.List.{AllZip}
use Rattle.rs_attr.specs.Tables.{ChangesTable, IndexState}
use Rattle.rs_cell_versions.specs.Version.{is_living}
use Rattle.rs_cell_versions.specs.declared.cell.TheConstants.{LIVING}
use Rattle.rs_file.specs.Contents.{Contents, TableContents}
use Rattle.rs_file.specs.declared.opened.OpenedTable.{OpenedTable}
use Rattle.rs_pages.specs.PageMap.{PageMap}
use Rattle.rs_versioned.specs.Events.{Event, kept_events}
use Rattle.rs_versioned.specs.Records.{HasCleared, HoldsRecords}
use Rattle.rs_versioned.specs.Referents.{ReferentRecord, SaysReferent}
use Rattle.rs_file_parts.specs.Clearing.{ClearsFirst, ClearsParts, clearable, clearable_events, clearable_referents, records_in}
use Rattle.rs_file_parts.specs.Parts.{IsTableCommitted}

-- ---- keeping and taking back

-- the index is as it was, and that is what stood there at the last commit
pub record IsIndexKept (was is : IndexState) : Type 0 where
  pub field : is.field ≡ was.field
  pub working : is.working ≡ was.working
  pub committed : is.committed ≡ was.working

-- the same of a table
pub record IsTableKept (was is : OpenedTable) : Type 0 where
  pub types : is.records.types ≡ was.records.types
  pub working : is.records.working ≡ was.records.working
  pub committed : is.records.committed ≡ was.records.working
  pub indexes : AllZip IsIndexKept was.indexes.items is.indexes.items

-- the index is as it stood at the last commit
pub record IsIndexTakenBack (was is : IndexState) : Type 0 where
  pub field : is.field ≡ was.field
  pub working : is.working ≡ was.committed
  pub committed : is.committed ≡ was.committed

-- the same of a table
pub record IsTableTakenBack (was is : OpenedTable) : Type 0 where
  pub types : is.records.types ≡ was.records.types
  pub working : is.records.working ≡ was.records.committed
  pub committed : is.records.committed ≡ was.records.committed
  pub indexes : AllZip IsIndexTakenBack was.indexes.items is.indexes.items

-- ---- which tables have changed

-- of the tables up to a place only those from one place up to another have changed since the last commit
pub record HaveChangedWithin (from to upto : ℕ) (tables : List OpenedTable) : Type 0 where
  pub order : from ≤ to
  pub within : to ≤ upto
  pub before : (place : ℕ) (table : OpenedTable) → place < from → slice_get tables place ≡ Some table → IsTableCommitted table
  pub after : (place : ℕ) (table : OpenedTable) → to ≤ place → place < upto → slice_get tables place ≡ Some table → IsTableCommitted table

-- ---- clearing

-- no record of the table is dead
abbrev pub HasNoneDead : OpenedTable → Type 0
HasNoneDead table = length table.records.working.dead ≡ 0

-- where the table's events lie there, the events of these cells are gone, so many, which is all that may go or as many as were
-- asked for
pub record ClearsOpened (old new : PageMap) (was is : OpenedTable) (oldest most gone : ℕ) : Type 0 where
  pub cells : List (List ℕ)
  pub many : length cells ≡ gone
  pub changes : (accepted : ℕ) → ChangesTable was.records.types old new was.records.working is.records.working was.indexes.items is.indexes.items
      accepted accepted (HasCleared (kept_events was.records.types) oldest cells)
  pub as_many : (events : List Event) (used : ℕ → ℕ) (accepted : ℕ)
      → HoldsRecords (kept_events was.records.types) old was.records.working accepted events used → oldest < LIVING
      → gone ≡ min most (clearable_events oldest events)

-- so many are gone, and with those that may still go they are as many as are to go
pub record ClearsSome (oldest most gone : ℕ) (old now : Contents) : Type 0 where
  pub parts : ClearsParts oldest old now
  pub many : records_in old ≡ records_in now + gone
  pub left : oldest < LIVING → gone + min (most - gone) (clearable oldest now) ≡ min most (clearable oldest old)

-- no event is left at this place that no version from the oldest on sees
pub record HasNoneAt (oldest place : ℕ) (contents : Contents) : Type 0 where
  pub none : (table : TableContents) → slice_get contents.tables place ≡ Some table → clearable_events oldest table.events ≡ 0

-- the same at each of these places, where fewer are gone than were asked for, and the first of them came first
pub record ClearsPlaces (oldest most gone from to : ℕ) (old now : Contents) : Type 0 where
  pub some : ClearsSome oldest most gone old now
  pub first : from < to → ClearsFirst oldest most from old now
  pub none : oldest < LIVING → gone < most → (place : ℕ) → from ≤ place → place < to → HasNoneAt oldest place now

-- no referent is left that no version from the oldest on sees, where fewer are gone than were asked for
pub record ClearsAllReferents (oldest most gone : ℕ) (old now : Contents) : Type 0 where
  pub some : ClearsSome oldest most gone old now
  pub tables : now.tables ≡ old.tables
  pub none : oldest < LIVING → gone < most → clearable_referents oldest now.referents.referents ≡ 0

-- ---- referents

-- the cell at this place lives and has this name
pub record IsCellNamed (cells : List (List ℕ)) (name : List ℕ) (place : ℕ) : Type 0 where
  pub cell : List ℕ
  pub there : slice_get cells place ≡ Some cell
  pub living : IsTrue (is_living cell)
  pub named : (referent : ReferentRecord) → SaysReferent cell referent → referent.name ≡ name

-- no cell lives and has this name
pub record NoCellNamed (cells : List (List ℕ)) (name : List ℕ) : Type 0 where
  pub none : (place : ℕ) (cell : List ℕ) (referent : ReferentRecord) → slice_get cells place ≡ Some cell → IsTrue (is_living cell)
      → SaysReferent cell referent → referent.name ≡ name → ⊥
