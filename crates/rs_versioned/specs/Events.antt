-- Event records of a table, the cells that say them, and what a version sees of them.
use Rattle.std.specs.Prelude.{ℕ, Bool, ◌==◌, ◌&&◌, ◌≡◌, ◌+◌, nat_le, nat_lt, List, [], ◌∷◌, map, filter}
use Rattle.std.specs.List.{AllByRecursion}
use Rattle.std.specs.declared.cmp.Ordering.TheVariants.{Less}
use Rattle.rs_facts.specs.Fact.{Places}
use Rattle.rs_facts.specs.Runs.{Stretch, stretch, stretch_cmp}
use Rattle.rs_facts.specs.Spans.{places_of}
use Rattle.rs_facts.specs.declared.fact.Span.{Span}
use Rattle.rs_interval.specs.EventRecords.{SaysRecord}
use Rattle.rs_interval.specs.Finding.{event_form}
use Rattle.rs_value.specs.declared.column.ColumnType.{ColumnType}
use Rattle.rs_value.specs.Encoding.{SaysRow, row_width}
use Rattle.rs_value.specs.Row.{Row}
use Rattle.rs_cell_versions.specs.declared.cell.TheConstants.{LIVING}
use Rattle.rs_versioned.specs.Records.{Kept}
use Rattle.rs_versioned.specs.declared.event.LentSpan.{LentSpan}

-- a row that holds on a route from one thousandth up to another, as versions from one up to another see it
pub record Event : Type 0 where
  pub route : ℕ
  pub lo : ℕ
  pub hi : ℕ
  pub row : Row
  pub born : ℕ
  pub died : ℕ

-- the span's row on the route, as versions from this one on see it
abbrev pub event_of : ℕ → Span → ℕ → Event
event_of route span version = record { route = route; lo = span.lo; hi = span.hi; row = span.tuple; born = version; died = LIVING }

-- the cell says the event, with a row of these columns
pub record SaysEvent (types : List ColumnType) (cell : List ℕ) (event : Event) : Type 0 where
  pub bytes : List ℕ
  pub row : SaysRow types bytes event.row
  pub fields : SaysRecord cell (record { route = event.route; from = event.lo; row = bytes; born = event.born; to = event.hi; died = event.died })

-- how many bytes a cell has
abbrev pub event_width : List ColumnType → ℕ
event_width types = row_width types + 28

abbrev pub ended_event : ℕ → Event → Event
ended_event version event = record { route = event.route; lo = event.lo; hi = event.hi; row = event.row; born = event.born; died = version }

-- how events with rows of these columns are kept
abbrev pub kept_events : List ColumnType → Kept Event
kept_events types = record { form = event_form (event_width types); says = SaysEvent types; born = λ event. event.born; died = λ event. event.died; ended = ended_event }

-- the version sees the event
abbrev pub sees_event : ℕ → Event → Bool
sees_event version event = nat_le event.born version && nat_lt version event.died

-- the version sees the event, and it is on the route, begins before b and ends after a
abbrev pub is_visible : ℕ → ℕ → ℕ → ℕ → Event → Bool
is_visible version route a b event = event.route == route && (nat_lt event.lo b && nat_lt a event.hi) && sees_event version event

-- the version sees the event, and it is on the route
abbrev pub is_on : ℕ → ℕ → Event → Bool
is_on version route event = event.route == route && sees_event version event

abbrev pub span_of : Event → Stretch
span_of event = stretch event.lo event.hi event.row

-- the lent span says this one, with a row of these columns
pub record SaysSpan (types : List ColumnType) (lent : LentSpan) (span : Stretch) : Type 0 where
  pub lo : lent.lo ≡ span.lo
  pub hi : lent.hi ≡ span.hi
  pub row : SaysRow types lent.row.now span.row

-- the spans that a version sees on a route
abbrev pub spans_at : ℕ → ℕ → List Event → List Stretch
spans_at version route events = map span_of (filter (is_on version route) events)

-- the facts of a version on a route
abbrev pub facts_at : ℕ → ℕ → List Event → Places
facts_at version route events = places_of (spans_at version route events)

-- none comes before one that is listed before it, when spans are printed
abbrev pub AreInPrintingOrder : List Stretch → Type 0
AreInPrintingOrder [] = Unit {0}
AreInPrintingOrder (span ∷ spans) = AllByRecursion (λ later. stretch_cmp later span ≡ Less → ⊥) spans × AreInPrintingOrder spans
