-- How definitions differ where a table or an index comes or goes, and what is written with them.
use Rattle.std.specs.Prelude.{◌≡◌, ◌≤◌, ◌<◌, ◌+◌, ◌*◌, ◌==◌, ℕ, not, List, [], ◌∷◌, ◌++◌, OnOk, Result, Some, filter, length, map, slice_get}
use Rattle.std.specs.List.{insert, remove}
use Rattle.std.specs.Vec.{vec_capacity, vec_len}
use Rattle.rs_attr.specs.Calls.{IsFresh}
use Rattle.rs_attr.specs.Entries.{FitsPages}
use Rattle.rs_attr.specs.Tables.{ChangesTable, IndexState, kept_parts}
use Rattle.rs_catalog_pages.specs.Directory.{DirectoryItems, HasDirectory}
use Rattle.rs_catalog_pages.specs.Items.{CatalogueItems, IndexItem, TableItem}
use Rattle.rs_catalog_pages.specs.Storing.{StoresAfter}
use Rattle.rs_catalog_pages.specs.declared.items.StoredCatalogue.{StoredCatalogue}
use Rattle.rs_change_laws.specs.Parts.{ChangesTableAt}
use Rattle.rs_file.specs.Contents.{Contents, HoldsAll, HoldsParts, TableContents, type_of}
use Rattle.rs_file.specs.Slots.{indexes_on}
use Rattle.rs_file.specs.declared.opened.OpenedFile.{OpenedFile}
use Rattle.rs_file.specs.declared.opened.OpenedTable.{OpenedTable}
use Rattle.rs_file_parts.specs.Parts.{IsOpenedFile, Makes}
use Rattle.rs_pages.specs.PageMap.{PageMap}
use Rattle.rs_pages.specs.declared.pages.Pages.{Ghosts}
use Rattle.rs_refusal.specs.declared.refusal.Refusal.{Refusal}
use Rattle.rs_value.specs.declared.column.ColumnType.{ColumnType}
use Rattle.rs_value.specs.declared.column.TheConstants.{COLUMNS}
use Rattle.rs_versioned.specs.Events.{Event, event_width}
use Rattle.rs_versioned.specs.Records.{HasNone}

-- ---- how definitions differ

-- the item is put at the place
pub record IsPutAt {X : Type 0} (place : ℕ) (one : X) (old now : List X) : Type 0 where
  pub before : List X
  pub after : List X
  pub long : length before ≡ place
  pub was : old ≡ before ++ after
  pub is : now ≡ before ++ one ∷ after

-- One table more, at the place, with the same indexes. It has columns of these types, no more than a line can name, and three entries
-- of its tree fit a page.
pub record HasTableAt (place : ℕ) (types : List ColumnType) (old now : CatalogueItems) : Type 0 where
  pub item : TableItem
  pub tables : IsPutAt place item old.tables now.tables
  pub indexes : now.indexes ≡ old.indexes
  pub few : length item.columns ≤ COLUMNS
  pub types_are : types ≡ map type_of item.columns
  pub fits : 3 * (8 + event_width types) ≤ 4080

-- the table at the place is gone with the indexes of its number
pub record LosesTableAt (place : ℕ) (old now : CatalogueItems) : Type 0 where
  pub item : TableItem
  pub tables : IsPutAt place item now.tables old.tables
  pub indexes : now.indexes ≡ filter (λ index. not (index.table == item.number)) old.indexes

-- one index more, at this position among those of the table at the place. Taken the other way round, one less
pub record HasIndexAt (place position : ℕ) (old now : CatalogueItems) : Type 0 where
  pub index : IndexItem
  pub table : TableItem
  pub there : slice_get now.tables place ≡ Some table
  pub of_table : index.table ≡ table.number
  pub before : List IndexItem
  pub after : List IndexItem
  pub were : old.indexes ≡ before ++ after
  pub are : now.indexes ≡ before ++ index ∷ after
  pub long : length (indexes_on before table.number) ≡ position
  pub tables : now.tables ≡ old.tables

-- the same, of this column, and three entries of its tree fit a page
pub record HasIndexOfAt (place position column : ℕ) (old now : CatalogueItems) : Type 0 where
  pub more : HasIndexAt place position old now
  pub column_is : more.index.column ≡ column
  pub below : column < length more.table.columns
  pub fits : FitsPages (map type_of more.table.columns) column

-- ---- what is written

-- no contents lie there with what is open, beside a directory
pub record HoldsNoneBeside (map : PageMap) (file : OpenedFile) : Type 0 where
  pub none : (contents : Contents) (directory : DirectoryItems) → HasDirectory map directory → HoldsParts map file.accepted contents
      → IsOpenedFile file contents → ⊥

-- what is left on any disk: 94 comes only where this is damaged
pub record LeavesNext {P T : Type 0} (pages : Ghosts P) (damaged : Type 0) (result : Result T Refusal) (old new : P) : Type 0 where
  pub keeps : pages.keeps old new
  pub stores : StoresAfter (pages.is_tied old → damaged) result (pages.store old) (pages.store new)

-- the file holds the contents with these definitions, and with a directory of the next version
pub record HoldsNext (definitions : CatalogueItems) (contents : Contents) (new : PageMap) (was is : OpenedFile) : Type 0 where
  pub directory : DirectoryItems
  pub accepted : directory.accepted ≡ was.accepted + 1
  pub holds : HoldsAll new (record contents { definitions = definitions; pages = is.pages.items; directory = directory })

-- so it does, whatever contents lie there with what was open, beside a directory
pub record WritesNext (definitions : CatalogueItems) (old new : PageMap) (was is : OpenedFile) : Type 0 where
  pub each : (contents : Contents) (directory : DirectoryItems) → HasDirectory old directory → HoldsParts old was.accepted contents
      → IsOpenedFile was contents → HoldsNext definitions contents new was is

-- what is open is at the next version and has these definitions, and all else is as it was
abbrev pub IsWritten : StoredCatalogue → OpenedFile → OpenedFile → Type 0
IsWritten definitions was is = is ≡ record was { definitions = definitions; pages = is.pages; accepted = was.accepted + 1 }

-- ---- parts that come and go

-- a table of these columns without events, indexes and pages has come at the place
pub record ComesTable (place : ℕ) (types : List ColumnType) (old now : Contents) : Type 0 where
  pub before : List TableContents
  pub table : TableContents
  pub after : List TableContents
  pub long : length before ≡ place
  pub were : old.tables ≡ before ++ after
  pub are : now ≡ record old { tables = before ++ table ∷ after }
  pub types_are : table.types ≡ types
  pub no_events : table.events ≡ []
  pub no_indexes : table.indexes ≡ []

-- a table of these columns, without events and indexes, was put at the place of what is open
pub record IsTablePut (place : ℕ) (types : List ColumnType) (was is : OpenedFile) : Type 0 where
  pub table : OpenedTable
  pub types_are : table.records.types ≡ types
  pub none_dead : table.records.working.dead ≡ []
  pub no_indexes : table.indexes.items ≡ []
  pub tables : is.tables.items ≡ insert was.tables.items place table
  pub rest : is ≡ record was { tables = is.tables }

-- an index of the column was put at the position of what is open of a table
pub record IsIndexPut (position column : ℕ) (was is : OpenedTable) : Type 0 where
  pub index : IndexState
  pub fresh : IsFresh was.records.types column index
  pub records : is.records ≡ was.records
  pub indexes : is.indexes.items ≡ insert was.indexes.items position index

-- The index at the position was taken out of what is open of a table. Put back there, it is what it was at the last commit, and there
-- is room for it.
pub record IsIndexTaken (position : ℕ) (was is : OpenedTable) (index : IndexState) : Type 0 where
  pub records : is.records ≡ was.records
  pub indexes : is.indexes.items ≡ remove was.indexes.items position
  pub kept : kept_parts (insert is.indexes.items position index) ≡ kept_parts was.indexes.items
  pub room : vec_len is.indexes < vec_capacity is.indexes

-- the events are the same
abbrev pub StaySame : List Event → List Event → Type 0
StaySame old now = now ≡ old

-- ---- so it is on the pages of an honest disk

-- the file holds the contents with these definitions, at the next version
abbrev pub Writes : {P : Type 0} → Ghosts P → CatalogueItems → OpenedFile → OpenedFile → Result (Unit {0}) Refusal → P → P → Type 0
Writes pages definitions was is result old new = pages.is_tied old
    → OnOk result (WritesNext definitions (pages.store old).map (pages.store new).map was is)

-- a table has other indexes, and the same events
abbrev pub KeepsEvents : {P T : Type 0} → Ghosts P → OpenedTable → OpenedTable → Result T Refusal → P → P → Type 0
KeepsEvents pages was is result old new = pages.is_tied old → OnOk result ((accepted : ℕ)
    → ChangesTable was.records.types (pages.store old).map (pages.store new).map was.records.working is.records.working was.indexes.items is.indexes.items accepted accepted StaySame)

-- the table at the place has no events
abbrev pub Empties : {P : Type 0} → Ghosts P → OpenedFile → OpenedFile → ℕ → Result (Unit {0}) Refusal → P → P → Type 0
Empties pages was is place result old new = pages.is_tied old
    → OnOk result ((accepted : ℕ) → Makes (pages.store old).map (pages.store new).map was is accepted accepted (ChangesTableAt place HasNone))
