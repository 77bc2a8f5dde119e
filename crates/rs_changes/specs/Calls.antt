-- What a change of a file needs, and what it leaves of the pages and of what is open.
use Rattle.std.specs.Prelude.{◌≡◌, ◌≤◌, ◌<◌, ◌+◌, ℕ, IfOk, OnErr, OnOk, Result, Some, length, slice_get, true}
use Rattle.std.specs.List.{AllByRecursion}
use Rattle.rs_catalog_pages.specs.Fitting.{FitsCatalogue, IsShort}
use Rattle.rs_catalog_pages.specs.Items.{CatalogueItems}
use Rattle.rs_catalog_pages.specs.Said.{said_catalogue}
use Rattle.rs_catalog_pages.specs.Storing.{StoresAfter}
use Rattle.rs_catalog_pages.specs.declared.items.StoredCatalogue.{StoredCatalogue}
use Rattle.rs_change_laws.specs.Changing.{ChangesFile, HoldsNoFile}
use Rattle.rs_facts.specs.Spans.{IsPlaced, seen}
use Rattle.rs_facts.specs.declared.fact.Span.{Span}
use Rattle.rs_file.specs.Contents.{Contents}
use Rattle.rs_file.specs.declared.opened.OpenedFile.{OpenedFile}
use Rattle.rs_file.specs.declared.opened.OpenedTable.{OpenedTable}
use Rattle.rs_file_parts.specs.Parts.{HaveAllDiedBy, IsCommitted, IsReady, KeepsCommitted}
use Rattle.rs_machine.specs.declared.limits.TheConstants.{CHANGES}
use Rattle.rs_pages.specs.declared.pages.Pages.{Ghosts}
use Rattle.rs_refusal.specs.declared.refusal.Refusal.{Refusal}
use Rattle.rs_value.specs.Values.{IsRowOf}
use Rattle.rs_value.specs.declared.column.Kind.{Kind}

-- what a change leaves on any disk: 94 comes only where the file holds no contents with what is open
pub record LeavesFile {P T : Type 0} (pages : Ghosts P) (was : OpenedFile) (result : Result T Refusal) (old new : P) : Type 0 where
  pub keeps : pages.keeps old new
  pub stores : StoresAfter (pages.is_tied old → HoldsNoFile (pages.store old).map was) result (pages.store old) (pages.store new)

-- what is open can be changed, and no record that is known to be dead died after the version that was accepted last
pub record MayChange (file : OpenedFile) : Type 0 where
  pub ready : IsReady file
  pub order : HaveAllDiedBy file.accepted file

-- what is open is at the next version, has these definitions, and can be changed again
pub record IsNext (definitions : StoredCatalogue) (was is : OpenedFile) : Type 0 where
  pub may : MayChange is
  pub accepted : is.accepted ≡ was.accepted + 1
  pub definitions_are : is.definitions ≡ definitions

-- ---- what a change needs

-- changes are begun, what is open can be changed, nothing has changed since the last commit, and one version more can be accepted
pub record MayAccept {P : Type 0} (pages : Ghosts P) (file : OpenedFile) (old : P) : Type 0 where
  pub begun : (pages.store old).is_begun ≡ true
  pub opened : MayChange file
  pub committed : IsCommitted file
  pub room : file.accepted < CHANGES

-- The same, and these definitions can be written with the next version: they fit their fields and pages, and each route was born by then.
pub record MayDefine {P : Type 0} (pages : Ghosts P) (file : OpenedFile) (definitions : StoredCatalogue) (old : P) : Type 0 where
  pub begun : (pages.store old).is_begun ≡ true
  pub opened : MayChange file
  pub room : file.accepted < CHANGES
  pub fits : FitsCatalogue (said_catalogue definitions)
  pub short : IsShort (said_catalogue definitions)
  pub births : AllByRecursion (λ route. route.born ≤ file.accepted + 1) (said_catalogue definitions).routes

-- they list the same tables and indexes as these
pub record HasTablesOf (was items : CatalogueItems) : Type 0 where
  pub tables : items.tables ≡ was.tables
  pub indexes : items.indexes ≡ was.indexes

-- a table is open at the place, and the row along the span is one of its columns, of this kind
pub record IsRowAt (file : OpenedFile) (place : ℕ) (kind : Kind) (span : Span) : Type 0 where
  pub there : place < length file.tables.items
  pub row : (table : OpenedTable) → slice_get file.tables.items place ≡ Some table → IsRowOf table.records.types span.tuple
  pub placed : IsPlaced kind (seen span)

-- ---- what it makes of a file, and what it leaves of what is open

-- on an honest disk, whatever contents the file held with what was open have changed so
abbrev pub Changes : {P T : Type 0} → Ghosts P → ℕ → OpenedFile → OpenedFile → (Contents → Contents → Type 0) → Result T Refusal → P → P → Type 0
Changes pages oldest was is change result old new = pages.is_tied old → OnOk result (ChangesFile oldest (pages.store old).map (pages.store new).map was is change)

-- the same, by the count that is answered
abbrev pub ChangesBy : {P : Type 0} → Ghosts P → ℕ → OpenedFile → OpenedFile → (ℕ → Contents → Contents → Type 0) → Result ℕ Refusal → P → P → Type 0
ChangesBy pages oldest was is change result old new = pages.is_tied old
    → IfOk result (λ count. ChangesFile oldest (pages.store old).map (pages.store new).map was is (change count))

-- Made, what is open is at the next version with these definitions; refused, only how its parts stand has changed.
pub record ComesNext {T : Type 0} (definitions : StoredCatalogue) (result : Result T Refusal) (was is : OpenedFile) : Type 0 where
  pub next : OnOk result (IsNext definitions was is)
  pub stays : OnErr result (KeepsCommitted was is)
