-- What a search found of a table's events, their rows as the pages have them.
use Rattle.std.specs.Prelude.{◌≡◌, ◌+◌, true, false, ℕ, IfNone, IfOk, IfSome, List, ◌∷◌, Option, Result, drop, filter, map}
use Rattle.std.specs.List.{AllZip}
use Rattle.rs_facts.specs.Runs.{Stretch}
use Rattle.rs_file.specs.declared.opened.OpenedTable.{OpenedTable}
use Rattle.rs_pages.specs.declared.pages.Pages.{Ghosts}
use Rattle.rs_records.specs.Listed.{listed}
use Rattle.rs_refusal.specs.declared.refusal.Refusal.{Refusal}
use Rattle.rs_value.specs.declared.column.ColumnType.{ColumnType}
use Rattle.rs_versioned.specs.Events.{Event, SaysEvent, SaysSpan, kept_events, span_of}
use Rattle.rs_versioned.specs.Records.{HoldsRecords}
use Rattle.rs_versioned.specs.declared.event.LentSpan.{LentSpan}
use Rattle.rs_table_reads.specs.Picked.{is_picked}
use Rattle.rs_table_reads.specs.Read.{spans_in}
use Rattle.rs_table_reads.specs.declared.event_cells.FoundEvents.{FoundEvents}
use Rattle.rs_table_reads.specs.declared.window.RouteWindow.{RouteWindow}

-- each of the cells says an event, with a row of these columns
abbrev pub SayEvents : List ColumnType → List (List ℕ) → Type 0
SayEvents types cells = (events : List Event) × AllZip (SaysEvent types) cells events

-- each of the cells that were found says an event
abbrev pub AreEvents : FoundEvents → Type 0
AreEvents found = SayEvents found.schema.items (listed found.cells)

-- the spans in the window of these events, from the one in this place on: of those that its version sees, that reach into it and that are
-- placed as its kind asks
abbrev pub spans_left : RouteWindow → List Event → ℕ → List Stretch
spans_left window events place = map span_of (filter (is_picked window) (drop place events))

-- the span of the event in this place is lent and comes next, or it is not in the window
pub record LendsNext (types : List ColumnType) (window : RouteWindow) (events : List Event) (place : ℕ) (found : Option LentSpan) : Type 0 where
  pub lent : IfSome found (λ lent. (span : Stretch) × (spans_left window events place ≡ span ∷ spans_left window events (place + 1)) × SaysSpan types lent span)
  pub passed : IfNone found (spans_left window events place ≡ spans_left window events (place + 1))

-- where the cell says an event, its span is lent, or it is passed over
pub record LendsOne (types : List ColumnType) (window : RouteWindow) (cell : List ℕ) (found : Option LentSpan) : Type 0 where
  pub lent : IfSome found (λ lent. (event : Event) → SaysEvent types cell event → (is_picked window event ≡ true) × SaysSpan types lent (span_of event))
  pub passed : IfNone found ((event : Event) → SaysEvent types cell event → is_picked window event ≡ false)

-- what was found says these spans
pub record SaysSpans (found : FoundEvents) (spans : List Stretch) : Type 0 where
  pub events : List Event
  pub say : AllZip (SaysEvent found.schema.items) (listed found.cells) events
  pub are : spans ≡ spans_left found.window events 0

-- on the pages of an honest disk, whatever events of the table lie there, what was found says their spans in the window
abbrev pub FindsEvents : {P : Type 0} → Ghosts P → OpenedTable → RouteWindow → Result FoundEvents Refusal → P → Type 0
FindsEvents pages table window result old = pages.is_tied old
    → IfOk result (λ found. (events : List Event) (used : ℕ → ℕ) (accepted : ℕ)
    → HoldsRecords (kept_events table.records.types) (pages.store old).map table.records.working accepted events used → SaysSpans found (spans_in window events))
