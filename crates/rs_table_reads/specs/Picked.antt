-- What is picked of the cells that a search found.
use Rattle.std.specs.Prelude.{◌≡◌, ◌&&◌, Bool, true, false, ℕ, List, Option, IfNone, IfSome, filter, map, nat_lt}
use Rattle.std.specs.List.{AllZip}
use Rattle.rs_facts.specs.Runs.{Stretch}
use Rattle.rs_facts.specs.Spans.{seen}
use Rattle.rs_facts.specs.declared.fact.Span.{Span}
use Rattle.rs_value.specs.declared.column.ColumnType.{ColumnType}
use Rattle.rs_versioned.specs.Events.{Event, SaysEvent, sees_event, span_of}
use Rattle.rs_table_reads.specs.Read.{is_placed}
use Rattle.rs_table_reads.specs.declared.window.RouteWindow.{RouteWindow}

-- the window's version sees the event, which ends after the window begins and is placed as its kind asks
abbrev pub is_picked : RouteWindow → Event → Bool
is_picked window event = (sees_event window.version event && nat_lt window.from event.hi) && is_placed window.kind (span_of event)

-- where the cell says an event, its span is picked or it is passed over
pub record PicksOne (types : List ColumnType) (window : RouteWindow) (cell : List ℕ) (found : Option Span) : Type 0 where
  pub picked : IfSome found (λ span. (event : Event) → SaysEvent types cell event → (is_picked window event ≡ true) × (seen span ≡ span_of event))
  pub passed : IfNone found ((event : Event) → SaysEvent types cell event → is_picked window event ≡ false)

-- where the cells say events, these are the spans of those that are picked
pub record PicksSpans (types : List ColumnType) (window : RouteWindow) (cells : List (List ℕ)) (spans : List Stretch) : Type 0 where
  pub are : (events : List Event) → AllZip (SaysEvent types) cells events → spans ≡ map span_of (filter (is_picked window) events)

-- the cells say no events
pub record SayNone (types : List ColumnType) (cells : List (List ℕ)) : Type 0 where
  pub none : (events : List Event) → AllZip (SaysEvent types) cells events → ⊥
