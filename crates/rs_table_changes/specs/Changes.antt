-- What an insertion and a removal at a version make of the events of a table.
use Rattle.std.specs.Prelude.{◌≡◌, ◌≢◌, ◌≤◌, ◌<◌, ℕ, IsPermutation, List, Option, min}
use Rattle.rs_attr.specs.Tables.{ChangesTable}
use Rattle.rs_file.specs.declared.opened.OpenedTable.{OpenedTable}
use Rattle.rs_spans.specs.Removal.{goes_by}
use Rattle.rs_facts.specs.Insert.{missing, with_row}
use Rattle.rs_facts.specs.Remove.{going, without_rows}
use Rattle.rs_facts.specs.Runs.{Stretch}
use Rattle.rs_facts.specs.declared.condition.Condition.{Condition}
use Rattle.rs_file_meaning.specs.Live.{KeepsEvents}
use Rattle.rs_pages.specs.PageMap.{PageMap}
use Rattle.rs_spans.specs.Within.{AllLieWithin}
use Rattle.rs_value.specs.declared.column.ColumnType.{ColumnType}
use Rattle.rs_value.specs.declared.column.Kind.{Kind}
use Rattle.rs_versioned.specs.Events.{Event, facts_at, kept_events, spans_at}
use Rattle.rs_versioned.specs.Records.{HasCleared}
use Rattle.rs_versioned.specs.Runs.{AreRunsAt, AreRunsFrom}
use Rattle.rs_table_changes.specs.Turns.{EventsTurn}
use Rattle.rs_table_changes.specs.declared.moment.Moment.{Moment}

-- A change of one route at a version: live versions are shown what they were, and this version what the accepted one was on each other
-- route. Of all events, seen or not, some end at it, some are born at it, and the rest stay.
pub record ChangesRoute (kind : Kind) (accepted version route : ℕ) (old now : List Event) : Type 0 where
  pub live : (oldest : ℕ) → oldest ≤ accepted → AreRunsFrom kind oldest accepted old → KeepsEvents oldest accepted old now
  pub elsewhere : (other : ℕ) → other ≢ route → IsPermutation (spans_at version other now) (spans_at accepted other old)
  pub turns : EventsTurn version old now

-- Insertion: where the accepted version has just the runs of its facts on the route, this version has the row at each thousandth of the
-- span beside them, and just the runs of these.
pub record Inserts (kind : Kind) (accepted version route : ℕ) (span : Stretch) (count : ℕ) (old now : List Event) : Type 0 where
  pub changes : ChangesRoute kind accepted version route old now
  pub facts : AreRunsAt kind accepted route old → facts_at version route now ≡ with_row span.lo span.hi span.row (facts_at accepted route old)
  pub runs : AreRunsAt kind accepted route old → AreRunsAt kind version route now
  pub within : (start finish : ℕ) → AllLieWithin start finish (spans_at accepted route old) → start ≤ span.lo → span.hi ≤ finish
      → AllLieWithin start finish (spans_at version route now)
  pub counted : AreRunsAt kind accepted route old → count ≡ missing span.lo span.hi span.row (facts_at accepted route old)

-- Removal, whatever the kind: where the accepted version has just the runs of its facts on the route, this version has these without the
-- rows that go from one thousandth on and below another, and just their runs.
pub record Removes (accepted version route lo hi : ℕ) (goes : Option Condition) (count : ℕ) (old now : List Event) : Type 0 where
  pub changes : (kind : Kind) → ChangesRoute kind accepted version route old now
  pub facts : (kind : Kind) → AreRunsAt kind accepted route old
      → facts_at version route now ≡ without_rows lo hi (goes_by goes) (facts_at accepted route old)
  pub runs : (kind : Kind) → AreRunsAt kind accepted route old → AreRunsAt kind version route now
  pub within : (start finish : ℕ) → AllLieWithin start finish (spans_at accepted route old) → AllLieWithin start finish (spans_at version route now)
  pub counted : (kind : Kind) → AreRunsAt kind accepted route old → count ≡ going lo hi (goes_by goes) (facts_at accepted route old)

-- Events have changed so, and then some are gone that no version from the level on sees, whichever of them these are.
pub record ThenCleared (level : ℕ) (types : List ColumnType) (change : List Event → List Event → Type 0) (old now : List Event) : Type 0 where
  pub between : List Event
  pub changed : change old between
  pub cells : List (List ℕ)
  pub cleared : HasCleared (kept_events types) level cells between now

module _ (old new : PageMap) (was is : OpenedTable) where
  -- so the table in the pages has changed, whichever version before this one was accepted last
  abbrev ChangesAt : ℕ → ℕ → (List Event → List Event → Type 0) → Type 0
  ChangesAt accepted version = ChangesTable was.records.types old new was.records.working is.records.working was.indexes.items is.indexes.items accepted version

  abbrev pub Inserted : Moment → Kind → ℕ → Stretch → ℕ → Type 0
  Inserted moment kind route span count = (accepted : ℕ) → accepted < moment.version
      → ChangesAt accepted moment.version (ThenCleared (min moment.oldest moment.version) was.records.types (Inserts kind accepted moment.version route span count))

  abbrev pub Removed : Moment → ℕ → ℕ → ℕ → Option Condition → ℕ → Type 0
  Removed moment route lo hi goes count = (accepted : ℕ) → accepted < moment.version
      → ChangesAt accepted moment.version (ThenCleared (min moment.oldest moment.version) was.records.types (Removes accepted moment.version route lo hi goes count))
