-- What is read of a table's events.
use Rattle.std.specs.Prelude.{◌≡◌, ◌≤◌, ◌+◌, ◌*◌, ◌==◌, ◌&&◌, ℕ, Bool, Err, IfOk, List, Result, Vec, count_by, filter, map, nat_eq, nat_lt}
use Rattle.std.specs.declared.alloc.Global.{Global}
use Rattle.rs_facts.specs.Runs.{Stretch}
use Rattle.rs_facts.specs.Spans.{seen}
use Rattle.rs_facts.specs.declared.fact.Span.{Span}
use Rattle.rs_file.specs.declared.opened.OpenedTable.{OpenedTable}
use Rattle.rs_pages.specs.PageMap.{PageMap}
use Rattle.rs_pages.specs.declared.pages.Pages.{Ghosts}
use Rattle.rs_refusal.specs.declared.refusal.Refusal.{Refusal}
use Rattle.rs_refusal.specs.declared.refusal.Refusal.TheVariants as refusal
use Rattle.rs_interval.specs.Finding.{ends_after, event_form, route_from}
use Rattle.rs_tree.specs.Leading.{pages_leading}
use Rattle.rs_value.specs.declared.column.ColumnType.{ColumnType}
use Rattle.rs_value.specs.declared.column.Kind.{Kind}
use Rattle.rs_value.specs.declared.column.Kind.TheVariants.{Line, Point}
use Rattle.rs_cell_versions.specs.Versioned.{Standing}
use Rattle.rs_versioned.specs.Events.{Event, event_width, is_visible, kept_events, span_of}
use Rattle.rs_versioned.specs.Records.{HoldsRecords}
use Rattle.rs_table_reads.specs.declared.window.RouteWindow.{RouteWindow}

-- a span of a line has a thousandth at least, and one of a point has just one
abbrev pub is_placed : Kind → Stretch → Bool
is_placed Line span = nat_lt span.lo span.hi
is_placed Point span = nat_eq span.hi (span.lo + 1)

-- the spans that a version sees on a route and that overlap a stretch, but for those that are not placed as the kind asks
abbrev pub spans_within : Kind → ℕ → ℕ → ℕ → ℕ → List Event → List Stretch
spans_within kind version route from to events = filter (is_placed kind) (map span_of (filter (is_visible version route from to) events))

-- the same of the window
abbrev pub spans_in : RouteWindow → List Event → List Stretch
spans_in window = spans_within window.kind window.version window.route window.from window.to

-- the event overlaps the window, whatever version sees it
abbrev pub touches : RouteWindow → Event → Bool
touches window event = event.route == window.route && (nat_lt event.lo window.to && nat_lt window.from event.hi)

-- how many pages of the tree lead to cells of events that overlap the window, its root among them
abbrev pub pages_over : RouteWindow → (types : List ColumnType) (pages : PageMap) (standing : Standing) (accepted : ℕ) (events : List Event) (used : ℕ → ℕ)
    → HoldsRecords (kept_events types) pages standing accepted events used → ℕ
pages_over window types pages standing accepted events used records =
    pages_leading (route_from window.route 0) (route_from window.route window.to) (ends_after window.from) (event_form (event_width types)) pages
    records.holds.tree.height standing.root records.cells used records.holds.tree.stands

-- Whatever events lie there, these are their spans in the window. Each page that leads to an event that overlaps the window, of whatever
-- version, was read, and no more pages than two for each level of their tree and as many more for each such event.
pub record ReadsSpans (types : List ColumnType) (pages : PageMap) (standing : Standing) (window : RouteWindow) (spans : List Stretch) (reads : ℕ) : Type 0 where
  pub each : (events : List Event) (used : ℕ → ℕ) (accepted : ℕ) → HoldsRecords (kept_events types) pages standing accepted events used
      → spans ≡ spans_in window events
  pub bounded : (events : List Event) (used : ℕ → ℕ) (accepted : ℕ) → (records : HoldsRecords (kept_events types) pages standing accepted events used)
      → reads ≤ records.holds.tree.height * (count_by (touches window) events + 2)
  pub least : (events : List Event) (used : ℕ → ℕ) (accepted : ℕ) → (records : HoldsRecords (kept_events types) pages standing accepted events used)
      → pages_over window types pages standing accepted events used records ≤ reads

-- no events lie there
pub record HoldsNoEvents (types : List ColumnType) (pages : PageMap) (standing : Standing) : Type 0 where
  pub none : (events : List Event) (used : ℕ → ℕ) (accepted : ℕ) → HoldsRecords (kept_events types) pages standing accepted events used → ⊥

module _ {P : Type 0} (pages : Ghosts P) (table : OpenedTable) where
  -- on the pages of an honest disk the spans are those in the window, and it is told how many pages were read
  abbrev pub GivesSpans : RouteWindow → Result (Vec Span Global × ℕ) Refusal → P → Type 0
  GivesSpans window result old = pages.is_tied old
      → IfOk result (λ found. ReadsSpans table.records.types (pages.store old).map table.records.working window (map seen found.0.items) found.1)

  -- 94 only where no events of the table lie there
  abbrev pub FindsNoEvents : {A : Type 0} → Result A Refusal → P → Type 0
  FindsNoEvents result old = pages.is_tied old → result ≡ Err refusal.DamagedFile
      → HoldsNoEvents table.records.types (pages.store old).map table.records.working
