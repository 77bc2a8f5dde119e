-- What the calls on a table with its indexes leave of the pages, do, and answer.
use Rattle.std.specs.Prelude.{◌≡◌, ◌<◌, ◌≤◌, ℕ, Bool, false, List, Result, Err, IfOk, OnOk, count_by, length, min, nat_le}
use Rattle.std.specs.List.{AllByRecursion}
use Rattle.rs_refusal.specs.declared.refusal.Refusal.{Refusal}
use Rattle.rs_refusal.specs.declared.refusal.Refusal.TheVariants as refusal
use Rattle.rs_pages.specs.PageMap.{PageMap, SamePages}
use Rattle.rs_pages.specs.declared.pages.Pages.{Ghosts}
use Rattle.rs_page_owners.specs.Calls as owners
use Rattle.rs_page_owners.specs.Counts.{◌&◌, no_pages}
use Rattle.rs_page_owners.specs.Owners.{Shares}
use Rattle.rs_records.specs.Listed.{listed}
use Rattle.rs_records.specs.declared.cells.Cells.{Cells}
use Rattle.rs_value.specs.declared.column.ColumnType.{ColumnType}
use Rattle.rs_cell_versions.specs.Version.{HaveDiedBy}
use Rattle.rs_cell_versions.specs.Versioned.{nothing_stands}
use Rattle.rs_cell_versions.specs.declared.cell.TheConstants.{LIVING}
use Rattle.rs_versioned.specs.Calls.{TellsNew, TellsOf}
use Rattle.rs_versioned.specs.Events.{Event, SaysEvent, kept_events}
use Rattle.rs_versioned.specs.Records.{HasCleared, HasEnded, HasNone, HasOneMore, HoldsRecords}
use Rattle.rs_versioned.specs.Tables.{EventTableState}
use Rattle.rs_cell_versions.specs.declared.told.ToldRecords.{ToldRecords}
use Rattle.rs_attr.specs.Entries.{BecomesIndex, IsColumn}
use Rattle.rs_attr.specs.Opening.{OpensNoTable, OpensTable}
use Rattle.rs_attr.specs.Tables.{ChangesTable, HoldsNoTable, IndexState, kept_parts}
use Rattle.rs_attr.specs.declared.told.ToldTable.{ToldTable}
use Rattle.rs_versioned.specs.declared.route_span.RouteSpan.{RouteSpan}

-- the columns, the fields of the indexes, and what stood there at the last commit stay
pub record KeepsTable (was is : EventTableState) (were are : List IndexState) : Type 0 where
  pub types : is.types ≡ was.types
  pub committed : is.committed ≡ was.committed
  pub kept : kept_parts are ≡ kept_parts were

-- from its birth on versions see the event in the table and its indexes. It is told whether it was not there before, and where
-- it was, nothing has changed
pub record IsAdded (old new : PageMap) (was is : EventTableState) (were are : List IndexState) (event : Event) (is_new : Bool) : Type 0 where
  pub changes : (accepted : ℕ) → accepted ≤ event.born → ChangesTable was.types old new was.working is.working were are accepted event.born (HasOneMore event)
  pub tells : TellsNew (kept_events was.types) old was.working event is_new
  pub rests : is_new ≡ false → SamePages new old × (is ≡ was) × (are ≡ were)

-- the event of the cell has ended at the version, whichever version was accepted, and whichever from that one and this one on is accepted
-- last, and it is told whether it was there
pub record IsEnded (old new : PageMap) (was is : EventTableState) (were are : List IndexState) (version : ℕ) (cell : List ℕ) (found : Bool) : Type 0 where
  pub changes : (accepted last : ℕ) (event : Event) → accepted ≤ last → version ≤ last → SaysEvent was.types cell event
      → ChangesTable was.types old new was.working is.working were are accepted last (HasEnded (kept_events was.types) version event)
  pub tells : (event : Event) → SaysEvent was.types cell event → TellsOf (kept_events was.types) old was.working event found

-- the events of the cells that were taken are gone, and no version from the oldest on saw one of them. They are all such
-- events, or as many as were asked for
pub record IsVacuumed (old new : PageMap) (was is : EventTableState) (were are : List IndexState) (oldest most : ℕ) (taken : Cells) : Type 0 where
  pub changes : (accepted : ℕ) → ChangesTable was.types old new was.working is.working were are accepted accepted (HasCleared (kept_events was.types) oldest (listed taken))
  pub as_many : (events : List Event) (used : ℕ → ℕ) (accepted : ℕ) → HoldsRecords (kept_events was.types) old was.working accepted events used
      → oldest < LIVING → length (listed taken) ≡ min most (count_by (λ event. nat_le event.died oldest) events)

-- nothing is left, without a look at a page
pub record IsEmpty (is : EventTableState) (are : List IndexState) : Type 0 where
  pub table : is.working ≡ nothing_stands
  pub indexes : AllByRecursion (λ index. index.working ≡ 0) are

module _ {P : Type 0} (pages : Ghosts P) (was : EventTableState) (were : List IndexState) where
  -- what a call that changes them leaves on any disk: 94 comes only where no such table with its indexes lies there with pages
  -- of their own
  abbrev pub Leaves : {T : Type 0} → Result T Refusal → P → P → Type 0
  Leaves result old new = owners.Leaves pages (HoldsNoTable was.types (pages.store old).map was.working were) result old new

  -- what the calls do and answer on the pages of an honest disk
  abbrev pub Adds : EventTableState → List IndexState → Event → Result Bool Refusal → P → P → Type 0
  Adds is are event result old new = pages.is_tied old
      → IfOk result (IsAdded (pages.store old).map (pages.store new).map was is were are event)

  abbrev pub Kills : EventTableState → List IndexState → ℕ → List ℕ → Result Bool Refusal → P → P → Type 0
  Kills is are version cell result old new = pages.is_tied old
      → IfOk result (IsEnded (pages.store old).map (pages.store new).map was is were are version cell)

  abbrev pub Vacuums : EventTableState → List IndexState → ℕ → ℕ → Result Cells Refusal → P → P → Type 0
  Vacuums is are oldest most result old new = pages.is_tied old
      → IfOk result (IsVacuumed (pages.store old).map (pages.store new).map was is were are oldest most)

  abbrev pub Clears : EventTableState → List IndexState → Result (Unit {0}) Refusal → P → P → Type 0
  Clears is are result old new = pages.is_tied old → OnOk result ((accepted : ℕ)
      → ChangesTable was.types (pages.store old).map (pages.store new).map was.working is.working were are accepted accepted HasNone)

-- the index is of the column with this number, and had no entries at the last commit
pub record IsFresh (types : List ColumnType) (number : ℕ) (index : IndexState) : Type 0 where
  pub column : IsColumn types number index.field
  pub committed : index.committed ≡ 0

-- the index has an entry for each event of the table, on the pages of an honest disk
abbrev pub Defines : {P : Type 0} → Ghosts P → EventTableState → Result IndexState Refusal → P → P → Type 0
Defines pages was result old new = pages.is_tied old → IfOk result (λ index. (accepted : ℕ) (events : List Event) (used others : ℕ → ℕ)
    → (records : HoldsRecords (kept_events was.types) (pages.store old).map was.working accepted events used) → Shares (pages.store old).map (used & others)
    → BecomesIndex index.field (pages.store old).map (pages.store new).map index.working no_pages records.cells)

-- the table has these columns, and no change since the last commit, and none of its events died after the version that was told
pub record IsOpened (columns : List ColumnType) (told : ToldRecords) (table : EventTableState) : Type 0 where
  pub types : table.types ≡ columns
  pub committed : table.committed ≡ table.working
  pub order : HaveDiedBy told.accepted table.working.dead

-- the table was found exactly where it lies there as it was told, with its indexes, in pages that weren't reached before, and its
-- events are meant
pub record IsFound (pages : PageMap) (told : ToldTable) (indexes : List IndexState) (routes : List RouteSpan) (before after : ℕ → ℕ) (result : Result EventTableState Refusal) : Type 0 where
  pub opens : IfOk result (λ table. OpensTable pages told table.working indexes routes before after)
  pub damaged : result ≡ Err refusal.DamagedFile → OpensNoTable pages told indexes routes before

-- so it is on the pages of an honest disk
abbrev pub Opens : {P : Type 0} → Ghosts P → ToldTable → List IndexState → List RouteSpan → (ℕ → ℕ) → (ℕ → ℕ) → Result EventTableState Refusal → P → Type 0
Opens pages told indexes routes before after result old = pages.is_tied old → IsFound (pages.store old).map told indexes routes before after result
