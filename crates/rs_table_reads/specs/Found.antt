-- What an index finds of a table's events.
use Rattle.std.specs.Prelude.{◌≡◌, ◌≤◌, ◌+◌, ◌*◌, ◌==◌, ◌&&◌, ◌++◌, ℕ, Bool, true, Err, IfOk, List, Result, Some, Vec, count_by, filter, map, nat_lt, slice_get}
use Rattle.std.specs.declared.alloc.Global.{Global}
use Rattle.rs_file.specs.Entries.{FitsPages, HoldsIndex, IsColumn, index_form}
use Rattle.rs_file.specs.Finding.{has_value}
use Rattle.rs_file.specs.Tables.{IndexState}
use Rattle.rs_cell_versions.specs.Versioned.{Standing}
use Rattle.rs_facts.specs.Runs.{Stretch}
use Rattle.rs_facts.specs.Spans.{seen}
use Rattle.rs_facts.specs.declared.fact.Span.{Span}
use Rattle.rs_file.specs.declared.opened.OpenedTable.{OpenedTable}
use Rattle.rs_interval.specs.Finding.{route_from}
use Rattle.rs_pages.specs.PageMap.{PageMap}
use Rattle.rs_pages.specs.declared.pages.Pages.{Ghosts}
use Rattle.rs_refusal.specs.declared.refusal.Refusal.{Refusal}
use Rattle.rs_refusal.specs.declared.refusal.Refusal.TheVariants as refusal
use Rattle.rs_tree.specs.Leading.{pages_leading}
use Rattle.rs_value.specs.Encoding.{SaysDatum}
use Rattle.rs_value.specs.Row.{Datum}
use Rattle.rs_value.specs.declared.column.ColumnType.{ColumnType}
use Rattle.rs_versioned.specs.Events.{Event, kept_events}
use Rattle.rs_versioned.specs.Records.{HoldsRecords}
use Rattle.rs_table_reads.specs.Read.{spans_in}
use Rattle.rs_table_reads.specs.declared.window.ColumnIndex.{ColumnIndex}
use Rattle.rs_table_reads.specs.declared.window.RouteWindow.{RouteWindow}

-- the table has an index at the position, which is of the column, and three entries of an inner page fit it
pub record IsIndexed (table : OpenedTable) (at : ColumnIndex) : Type 0 where
  pub index : IndexState
  pub there : slice_get table.indexes.items at.position ≡ Some index
  pub column : IsColumn table.records.types at.column index.field
  pub fits : FitsPages table.records.types at.column

-- the spans in the window of the events that have the value in the column
abbrev pub spans_with : ℕ → Datum → RouteWindow → List Event → List Stretch
spans_with column datum window events = spans_in window (filter (has_value column datum) events)

-- the event has the value, is on the window's route, and begins before the window ends, whatever version sees it
abbrev pub may_have : ℕ → Datum → RouteWindow → Event → Bool
may_have column datum window event = has_value column datum event && (event.route == window.route && nat_lt event.lo window.to)

-- how many pages of the index lead to the entries of the value on the window's route before the window ends, its root among them; the
-- bytes say the value
abbrev pub pages_to : RouteWindow → List ℕ → (pages : PageMap) (index : IndexState) (cells : List (List ℕ)) (uses : ℕ → ℕ)
    → HoldsIndex index.field pages index.working cells uses → ℕ
pages_to window bytes pages index cells uses entries =
    pages_leading (bytes ++ route_from window.route 0) (bytes ++ route_from window.route window.to) (λ _. true)
    (index_form index.field) pages entries.tree.height index.working entries.entries uses entries.tree.stands

-- Whatever events lie there with their entries in the index, these are the spans in the window of those that have the value. Each page
-- that leads to an entry of the value on the route before the window ends was read, and no more pages than two for each level of the
-- index and as many more for each event with the value on the route, of whatever version, that begins before the window ends. For a
-- value that no bytes of the column say no page is read.
pub record FindsSpans (types : List ColumnType) (column : ℕ) (pages : PageMap) (standing : Standing) (index : IndexState) (datum : Datum) (window : RouteWindow)
    (spans : List Stretch) (reads : ℕ) : Type 0 where
  pub each : (events : List Event) (used uses : ℕ → ℕ) (accepted : ℕ) → (records : HoldsRecords (kept_events types) pages standing accepted events used)
      → HoldsIndex index.field pages index.working records.cells uses → spans ≡ spans_with column datum window events
  pub bounded : (events : List Event) (used uses : ℕ → ℕ) (accepted : ℕ) → (records : HoldsRecords (kept_events types) pages standing accepted events used)
      → (entries : HoldsIndex index.field pages index.working records.cells uses)
      → reads ≤ entries.tree.height * (count_by (may_have column datum window) events + 2)
  pub least : (bytes : List ℕ) → SaysDatum index.field.column bytes datum → (events : List Event) (used uses : ℕ → ℕ) (accepted : ℕ)
      → (records : HoldsRecords (kept_events types) pages standing accepted events used)
      → (entries : HoldsIndex index.field pages index.working records.cells uses) → pages_to window bytes pages index records.cells uses entries ≤ reads
  pub none : ((bytes : List ℕ) → SaysDatum index.field.column bytes datum → ⊥) → reads ≡ 0

-- no events lie there with their entries in the index
pub record HoldsNoEntries (types : List ColumnType) (pages : PageMap) (standing : Standing) (index : IndexState) : Type 0 where
  pub none : (events : List Event) (used uses : ℕ → ℕ) (accepted : ℕ) → (records : HoldsRecords (kept_events types) pages standing accepted events used)
      → HoldsIndex index.field pages index.working records.cells uses → ⊥

-- on the pages of an honest disk the spans are those that the index at the place finds, and it is told how many pages were read
module _ {P : Type 0} (pages : Ghosts P) (table : OpenedTable) (at : ColumnIndex) where
  abbrev pub GivesSpansWith : Datum → RouteWindow → Result (Vec Span Global × ℕ) Refusal → P → Type 0
  GivesSpansWith value window result old = pages.is_tied old → (index : IndexState) → slice_get table.indexes.items at.position ≡ Some index
      → IfOk result (λ found. FindsSpans table.records.types at.column (pages.store old).map table.records.working index value window (map seen found.0.items) found.1)

  -- 94 only where no events of the table lie there with their entries in the index
  abbrev pub FindsNoEntries : Result (Vec Span Global × ℕ) Refusal → P → Type 0
  FindsNoEntries result old = pages.is_tied old → result ≡ Err refusal.DamagedFile → (index : IndexState)
      → slice_get table.indexes.items at.position ≡ Some index → HoldsNoEntries table.records.types (pages.store old).map table.records.working index
