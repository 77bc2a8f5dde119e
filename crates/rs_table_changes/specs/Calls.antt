-- What a change of a table at a version needs, and what it leaves of the pages and of what is open.
use Rattle.std.specs.Prelude.{◌≡◌, ◌<◌, ℕ, ◌≤◌, IfOk, List, Option, Result, length, true}
use Rattle.rs_attr.specs.Calls.{KeepsTable}
use Rattle.rs_attr.specs.Tables.{AreOn, HoldsTable, IndexState, all_of}
use Rattle.rs_cell_versions.specs.Version.{HaveDiedBy}
use Rattle.rs_cell_versions.specs.Versioned.{Standing}
use Rattle.rs_cell_versions.specs.declared.cell.TheConstants.{LIVING}
use Rattle.rs_facts.specs.Runs.{Stretch}
use Rattle.rs_facts.specs.declared.condition.Condition.{Condition}
use Rattle.rs_file.specs.declared.opened.OpenedTable.{OpenedTable}
use Rattle.rs_page_owners.specs.Calls as owners
use Rattle.rs_page_owners.specs.Counts.{◌&◌}
use Rattle.rs_page_owners.specs.Owners.{Shares}
use Rattle.rs_pages.specs.PageMap.{PageMap}
use Rattle.rs_pages.specs.declared.pages.Pages.{Ghosts}
use Rattle.rs_refusal.specs.declared.refusal.Refusal.{Refusal}
use Rattle.rs_value.specs.declared.column.ColumnType.{ColumnType}
use Rattle.rs_value.specs.declared.column.Kind.{Kind}
use Rattle.rs_versioned.specs.Events.{Event}
use Rattle.rs_table_changes.specs.Changes.{Inserted, Removed}
use Rattle.rs_table_changes.specs.declared.moment.Moment.{Moment}

-- no table with its indexes, dated up to the version at the latest, lies there so, with pages that are shared with other owners and a
-- free list
pub record HoldsNoTableBy (version : ℕ) (types : List ColumnType) (pages : PageMap) (standing : Standing) (indexes : List IndexState) : Type 0 where
  pub none : (accepted : ℕ) (events : List Event) (used : ℕ → ℕ) (uses : List (ℕ → ℕ)) (others : ℕ → ℕ) → accepted ≤ version
      → HoldsTable types pages standing indexes accepted events used uses → Shares pages (used & all_of uses & others) → ⊥

-- what a change at the version leaves on any disk: 94 comes only where no such table lies there
abbrev pub Leaves : {P T : Type 0} → Ghosts P → OpenedTable → ℕ → Result T Refusal → P → P → Type 0
Leaves pages was version result old new =
    owners.Leaves pages (HoldsNoTableBy version was.records.types (pages.store old).map was.records.working was.indexes.items) result old new

-- Changes are begun, and the table can be changed at the version: its indexes are on its columns, a record can die at the version, and no
-- record that is known to be dead died later.
pub record MayEdit {P : Type 0} (pages : Ghosts P) (table : OpenedTable) (version : ℕ) (old : P) : Type 0 where
  pub begun : (pages.store old).is_begun ≡ true
  pub indexes : AreOn table.records.types table.indexes.items
  pub mortal : version < LIVING
  pub order : HaveDiedBy version table.records.working.dead

-- The columns of a table, the fields of its indexes and what stood there at the last commit stay. No record that is known to be dead died
-- after the version, and there are no fewer than before.
pub record KeepsAt (version : ℕ) (was is : OpenedTable) : Type 0 where
  pub table : KeepsTable was.records is.records was.indexes.items is.indexes.items
  pub order : HaveDiedBy version is.records.working.dead
  pub more : length was.records.working.dead ≤ length is.records.working.dead

-- what a change does and answers on the pages of an honest disk
module _ {P : Type 0} (pages : Ghosts P) (was is : OpenedTable) (moment : Moment) where
  abbrev pub InsertsSpan : Kind → ℕ → Stretch → Result ℕ Refusal → P → P → Type 0
  InsertsSpan kind route span result old new = pages.is_tied old
      → IfOk result (λ count. Inserted (pages.store old).map (pages.store new).map was is moment kind route span count)

  abbrev pub RemovesRows : ℕ → ℕ → ℕ → Option Condition → Result ℕ Refusal → P → P → Type 0
  RemovesRows route lo hi goes result old new = pages.is_tied old
      → IfOk result (λ count. Removed (pages.store old).map (pages.store new).map was is moment route lo hi goes count)
