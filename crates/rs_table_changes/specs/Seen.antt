-- What versions before a change see.
use Rattle.std.specs.Prelude.{◌≡◌, ◌<◌, ℕ, List}
use Rattle.std.specs.List.{AllByRecursion}
use Rattle.rs_cell_versions.specs.declared.cell.TheConstants.{LIVING}
use Rattle.rs_facts.specs.Runs.{Stretch}
use Rattle.rs_file_meaning.specs.Live.{KeepsEvents}
use Rattle.rs_value.specs.declared.column.ColumnType.{ColumnType}
use Rattle.rs_value.specs.declared.column.Kind.{Kind}
use Rattle.rs_versioned.specs.Events.{Event}
use Rattle.rs_versioned.specs.Runs.{AreRunsFrom}
use Rattle.rs_table_changes.specs.Chains.{GivesWay}

-- versions that had their runs see what they saw where living events have ended at a later version and others have come
abbrev pub GivenWayIsSeen : Type 0
GivenWayIsSeen =
    (types : List ColumnType) (version route : ℕ) (gone : List Event) (come : List Stretch) (old now : List Event) → version < LIVING → AllByRecursion (λ one. one.died ≡ LIVING) gone
    → GivesWay types version route gone come old now → (kind : Kind) (oldest accepted : ℕ) → accepted < version → AreRunsFrom kind oldest accepted old → KeepsEvents oldest accepted old now
