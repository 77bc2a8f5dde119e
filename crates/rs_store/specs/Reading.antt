-- What a read leaves of a store, and what the tables of its file have by their numbers.
use Rattle.std.specs.Prelude.{◌≡◌, ◌⊎◌, ◌≤◌, ◌+◌, ◌*◌, ◌==◌, ◌&&◌, ℕ, Bool, true, false, IsTrue, List, [], ◌∷◌, Some, count_by, if◌then◌else◌, slice_get}
use Rattle.rs_attr.specs.Entries.{HoldsIndex}
use Rattle.rs_attr.specs.Tables.{IndexState}
use Rattle.rs_catalog_pages.specs.Items.{IndexItem}
use Rattle.rs_catalog_pages.specs.Said.{said_catalogue}
use Rattle.rs_catalog_pages.specs.declared.items.StoredTable.{StoredTable}
use Rattle.rs_cell_versions.specs.declared.cell.TheConstants.{LIVING}
use Rattle.rs_disk.specs.declared.disk.Disk as disk
use Rattle.rs_file.specs.Slots.{indexes_on}
use Rattle.rs_file.specs.declared.opened.OpenedFile.{OpenedFile}
use Rattle.rs_file.specs.declared.opened.OpenedTable.{OpenedTable}
use Rattle.rs_pager.specs.Maps.{IsTied, KeepsChanges, committed, working}
use Rattle.rs_facts.specs.Runs.{Stretch}
use Rattle.rs_pages.specs.PageMap.{PageMap, SamePages}
use Rattle.rs_table_reads.specs.Found.{may_have, pages_to, spans_with}
use Rattle.rs_table_reads.specs.Read.{pages_over, spans_in, touches}
use Rattle.rs_table_reads.specs.declared.window.RouteWindow.{RouteWindow}
use Rattle.rs_value.specs.Encoding.{SaysDatum}
use Rattle.rs_value.specs.Row.{Datum}
use Rattle.rs_versioned.specs.Events.{Event, kept_events}
use Rattle.rs_versioned.specs.Records.{HoldsRecords}
use Rattle.rs_store.specs.Calls.{KeepsStore}
use Rattle.rs_store.specs.Kept.{StoreState}
use Rattle.rs_store.specs.Placing.{HasNoNumber, IsNumberedAt}
use Rattle.rs_store.specs.declared.reading.IndexKey.{IndexKey}

-- the open table is that of the definition with this number
pub record IsTableNumbered (file : OpenedFile) (number : ℕ) (table : OpenedTable) : Type 0 where
  pub place : ℕ
  pub numbered : IsNumberedAt file.definitions.tables.items number place
  pub there : slice_get file.tables.items place ≡ Some table

-- the index has the key's number, and is of its table and column
abbrev pub is_of_key : IndexKey → IndexItem → Bool
is_of_key key item = item.table == key.table && item.number == key.number && item.column == key.column

-- the index at the position among those of the key's table is the key's
pub record IsIndexAt (indexes : List IndexItem) (key : IndexKey) (position : ℕ) : Type 0 where
  pub item : IndexItem
  pub there : slice_get (indexes_on indexes key.table) position ≡ Some item
  pub is : is_of_key key item ≡ true

-- none is
pub record HasNoIndex (indexes : List IndexItem) (key : IndexKey) : Type 0 where
  pub none : (place : ℕ) (item : IndexItem) → slice_get indexes place ≡ Some item → is_of_key key item ≡ false

-- ---- how many pages were read

-- no page where no table has the number
pub record ReadsNone (file : OpenedFile) (number reads : ℕ) : Type 0 where
  pub none : HasNoNumber file.definitions.tables.items number
  pub no_pages : reads ≡ 0

-- of the table's tree each page that leads to an event that overlaps the window, of whatever version, and no more than two for each of
-- its levels and as many more for each such event
pub record ReadsTable (map : PageMap) (file : OpenedFile) (number : ℕ) (window : RouteWindow) (reads : ℕ) : Type 0 where
  pub opened : OpenedTable
  pub numbered : IsTableNumbered file number opened
  pub few : (events : List Event) (used : ℕ → ℕ) (accepted : ℕ) → (records : HoldsRecords (kept_events opened.records.types) map opened.records.working accepted events used)
      → reads ≤ records.holds.tree.height * (count_by (touches window) events + 2)
  pub least : (events : List Event) (used : ℕ → ℕ) (accepted : ℕ) → (records : HoldsRecords (kept_events opened.records.types) map opened.records.working accepted events used)
      → pages_over window opened.records.types map opened.records.working accepted events used records ≤ reads

-- of the index's tree each page that leads to an entry of the value on the window's route before the window ends, and no more than two
-- for each of its levels and as many more for each event with the value on the route, of whatever version, that begins before the window
-- ends; no page where no bytes of the column say the value
pub record ReadsIndex (map : PageMap) (file : OpenedFile) (key : IndexKey) (datum : Datum) (window : RouteWindow) (reads : ℕ) : Type 0 where
  pub opened : OpenedTable
  pub numbered : IsTableNumbered file key.table opened
  pub position : ℕ
  pub at : IsIndexAt (said_catalogue file.definitions).indexes key position
  pub index : IndexState
  pub there : slice_get opened.indexes.items position ≡ Some index
  pub few : (events : List Event) (used uses : ℕ → ℕ) (accepted : ℕ) → (records : HoldsRecords (kept_events opened.records.types) map opened.records.working accepted events used)
      → (entries : HoldsIndex index.field map index.working records.cells uses)
      → reads ≤ entries.tree.height * (count_by (may_have key.column datum window) events + 2)
  pub least : (bytes : List ℕ) → SaysDatum index.field.column bytes datum → (events : List Event) (used uses : ℕ → ℕ) (accepted : ℕ)
      → (records : HoldsRecords (kept_events opened.records.types) map opened.records.working accepted events used)
      → (entries : HoldsIndex index.field map index.working records.cells uses) → pages_to window bytes map index records.cells uses entries ≤ reads
  pub none : ((bytes : List ℕ) → SaysDatum index.field.column bytes datum → ⊥) → reads ≡ 0

abbrev pub HasRead : PageMap → OpenedFile → ℕ → RouteWindow → ℕ → Type 0
HasRead map file number window reads = ReadsNone file number reads ⊎ ReadsTable map file number window reads

-- the index is read where the file has it, and else the table
abbrev pub HasReadIndex : PageMap → OpenedFile → IndexKey → Datum → RouteWindow → ℕ → Type 0
HasReadIndex map file key datum window reads =
    ReadsNone file key.table reads
    ⊎ (HasNoIndex (said_catalogue file.definitions).indexes key × ReadsTable map file key.table window reads)
    ⊎ ReadsIndex map file key datum window reads

-- ---- what was found

-- the spans in the window of the events that have the value; where the file has no such index, of all events
abbrev pub GivesValue : OpenedFile → IndexKey → Datum → RouteWindow → List Event → List Stretch → Type 0
GivesValue file key datum window events spans =
    (spans ≡ spans_with key.column datum window events)
    ⊎ (HasNoIndex (said_catalogue file.definitions).indexes key × (spans ≡ spans_in window events))

-- no version has ended the event
abbrev pub lives : Event → Bool
lives event = event.died == LIVING

-- how many records live of the table with this number; 0 where no table has it
abbrev pub living_with : List StoredTable → List OpenedTable → ℕ → ℕ
living_with [] tables number = 0
living_with (item ∷ items) [] number = 0
living_with (item ∷ items) (table ∷ tables) number = if item.number == number then table.records.working.living else living_with items tables number

abbrev pub living_of : OpenedFile → ℕ → ℕ
living_of file number = living_with file.definitions.tables.items file.tables.items number

module _ {D : Type 0} (d : disk.Ghosts D) where
  -- What a read leaves, whatever it answers and whatever the disk is: the store keeps what it kept, both maps of pages and the held
  -- changes stay, and nothing is written to the disk, whose failures may rise.
  pub record ReadsStore (old new : StoreState D) : Type 0 where
    pub keeps : KeepsStore d old new
    pub tied : IsTied d old.pager → IsTied d new.pager
    pub committed_pages : IsTied d old.pager → SamePages (committed d new.pager) (committed d old.pager)
    pub working_pages : IsTied d old.pager → SamePages (working d new.pager) (working d old.pager)
    pub changes : KeepsChanges old.pager new.pager
    pub seen : IsTrue (d.is_honest old.pager.disk) → d.seen new.pager.disk ≡ d.seen old.pager.disk
    pub failures : d.failures old.pager.disk ≤ d.failures new.pager.disk
