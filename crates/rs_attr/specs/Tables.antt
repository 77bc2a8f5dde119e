-- A table together with its attribute indexes.
use Rattle.std.specs.Prelude.{◌≡◌, ℕ, List, map}
use Rattle.std.specs.List.{AllByRecursion, AllZip, sum_by}
use Rattle.rs_attr.specs.Entries.{Field, HoldsIndex}
use Rattle.rs_page_owners.specs.Counts.{◌&◌}
use Rattle.rs_page_owners.specs.Owners.{Moves, Shares}
use Rattle.rs_pages.specs.PageMap.{PageMap}
use Rattle.rs_value.specs.declared.column.ColumnType.{ColumnType}
use Rattle.rs_versioned.specs.Events.{Event, event_width, kept_events}
use Rattle.rs_versioned.specs.Records.{HoldsRecords}
use Rattle.rs_cell_versions.specs.Versioned.{Standing}

-- what an index is to its callers: its field, the root of its tree now, and the root at the last commit
pub record IndexState : Type 0 where
  pub field : Field
  pub working : ℕ
  pub committed : ℕ

-- each index is of cells of this table's width
abbrev pub AreOn : List ColumnType → List IndexState → Type 0
AreOn types = AllByRecursion (λ index. index.field.cell_width ≡ event_width types)

-- what no change before a commit touches: the fields, and the roots at the last commit
abbrev pub kept_parts : List IndexState → List (Field × ℕ)
kept_parts = map (λ index. (index.field, index.committed))

-- what a table needs of its indexes: the fields, and the roots now
abbrev pub working_parts : List IndexState → List (Field × ℕ)
working_parts = map (λ index. (index.field, index.working))

-- the pages of all of these owners
abbrev pub all_of : List (ℕ → ℕ) → ℕ → ℕ
all_of owners number = sum_by (λ used. used number) owners

-- each index has the entries of just these cells, and pages of its own
abbrev pub HoldIndexes : PageMap → List IndexState → List (List ℕ) → List (ℕ → ℕ) → Type 0
HoldIndexes pages indexes cells = AllZip (λ index used. HoldsIndex index.field pages index.working cells used) indexes

-- cells that say these events lie in a tree, and each index has their entries
pub record HoldsTable (types : List ColumnType) (pages : PageMap) (standing : Standing) (indexes : List IndexState) (accepted : ℕ) (events : List Event)
    (used : ℕ → ℕ) (uses : List (ℕ → ℕ)) : Type 0 where
  pub records : HoldsRecords (kept_events types) pages standing accepted events used
  pub entries : HoldIndexes pages indexes records.cells uses

-- other events have taken the place of these, in the table and in its indexes, and their pages have moved beside those of any
-- other owners
pub record BecomesTable (types : List ColumnType) (old new : PageMap) (before : ℕ → ℕ) (standing : Standing) (indexes : List IndexState) (accepted : ℕ)
    (change : List Event → Type 0) : Type 0 where
  pub events : List Event
  pub after : ℕ → ℕ
  pub afters : List (ℕ → ℕ)
  pub holds : HoldsTable types new standing indexes accepted events after afters
  pub moves : Moves old new before (after & all_of afters)
  pub changed : change events

-- where a table with its indexes lies there, whose pages are shared with other owners and a free list, a changed one takes its
-- place
pub record ChangesTable (types : List ColumnType) (old new : PageMap) (was is : Standing) (were are : List IndexState) (from to : ℕ)
    (change : List Event → List Event → Type 0) : Type 0 where
  pub each : (events : List Event) (used : ℕ → ℕ) (uses : List (ℕ → ℕ)) (others : ℕ → ℕ) → HoldsTable types old was were from events used uses
      → Shares old (used & all_of uses & others) → BecomesTable types old new (used & all_of uses) is are to (change events)

-- no table with its indexes lies there so, with pages that are shared with other owners and a free list
pub record HoldsNoTable (types : List ColumnType) (pages : PageMap) (standing : Standing) (indexes : List IndexState) : Type 0 where
  pub none : (accepted : ℕ) (events : List Event) (used : ℕ → ℕ) (uses : List (ℕ → ℕ)) (others : ℕ → ℕ)
      → HoldsTable types pages standing indexes accepted events used uses → Shares pages (used & all_of uses & others) → ⊥
