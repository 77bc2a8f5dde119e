-- What a read leaves of a store, and what it finds of a table.
use Rattle.std.proofs.Common.{◌≡◌, ◌≤◌, ◌==◌, ◌&&◌, ◌∙◌, ℕ, Bool, Result, Ok, Err, Vec, List, [], slice_get, ap, inl, inr, map, refl, subst, sym, arith}
use Rattle.std.proofs.lemmas.Bool.{and_parts, eqb-true}
use Rattle.std.proofs.lemmas.Option.{same_Some, slice_get-map}
use Rattle.std.specs.FinMap as names
use Rattle.std.specs.List.{AllByRecursion, AllZip}
use Rattle.std.specs.Option.{option_map}
use Rattle.std.specs.Prelude.{IfOk, MatchResult, Some, count_by}
use Rattle.rs_catalog.specs.Definitions.{AreDefinitions, Definitions, Numbered, TableItem}
use Rattle.rs_catalog.specs.Referents.{HeldReferents}
use Rattle.rs_catalog_pages.specs.Items.{CatalogueItems}
use Rattle.rs_catalog_pages.specs.Said.{said_catalogue, said_table}
use Rattle.rs_cell_versions.specs.Versioned.{Standing}
use Rattle.rs_file.specs.Calls.{RefusesToLoad}
use Rattle.rs_file.specs.Contents.{Contents, LiesTable, table_numbers}
use Rattle.rs_file.specs.declared.opened.OpenedFile.{OpenedFile}
use Rattle.rs_file.specs.declared.opened.OpenedTable.{OpenedTable}
use Rattle.rs_disk.specs.Content.{Content}
use Rattle.rs_disk.specs.declared.disk.Disk as disk
use Rattle.rs_file.proofs.Loaded.{same_map}
use Rattle.rs_attr.specs.Entries.{FitsPages, HoldsIndex, IsColumn}
use Rattle.rs_attr.specs.Tables.{HoldsTable, IndexState}
use Rattle.rs_file.specs.Slots.{IsIndexOf, IsOfItem, indexes_on}
use Rattle.rs_file_parts.specs.Parts.{IsReady}
use Rattle.rs_table_reads.specs.Events.{SaysSpans}
use Rattle.rs_table_reads.specs.Found.{FindsSpans, HoldsNoEntries, IsIndexed, spans_with}
use Rattle.rs_table_reads.specs.Read.{HoldsNoEvents, ReadsSpans, spans_in}
use Rattle.rs_table_reads.specs.declared.event_cells.FoundEvents.{FoundEvents}
use Rattle.rs_table_reads.specs.declared.window.ColumnIndex.{ColumnIndex}
use Rattle.rs_table_reads.specs.declared.window.RouteWindow.{RouteWindow}
use Rattle.rs_value.specs.Row.{Datum}
use Rattle.rs_facts.specs.Fact.{Name}
use Rattle.rs_facts.specs.Runs.{Stretch}
use Rattle.rs_facts.specs.Spans.{seen}
use Rattle.rs_facts.specs.declared.fact.Span.{Span}
use Rattle.rs_machine.specs.Checks.{column_types}
use Rattle.rs_page_owners.specs.Counts.{times}
use Rattle.rs_pager.specs.Maps.{IsTied, KeepsBelow, committed, pager_store, working}
use Rattle.rs_pager.specs.Paged.{Paged}
use Rattle.rs_file_meaning.specs.Seen.{events_of, events_with}
use Rattle.rs_pager.specs.Opened.{CountsFault}
use Rattle.rs_pages.specs.Lending.{RestsAfter}
use Rattle.rs_pages.specs.PageMap.{PageMap}
use Rattle.rs_refusal.proofs.CountLemmas.{counted_on_le}
use Rattle.rs_refusal.specs.declared.refusal.Refusal.{Refusal}
use Rattle.rs_value.specs.Values.{IsRowOf}
use Rattle.rs_value.specs.declared.column.ColumnType.{ColumnType}
use Rattle.rs_versioned.proofs.KeptRecords.{events_are_kept}
use Rattle.rs_versioned.proofs.Present.{held_living}
use Rattle.rs_versioned.specs.Events.{Event, kept_events}
use Rattle.rs_versioned.specs.Records.{HoldsRecords}
use Rattle.rs_store.specs.Kept.{IsAtRest, Keeps, StoreState}
use Rattle.rs_store.specs.Placing.{HasNoNumber, IsNumberedAt}
use Rattle.rs_store.specs.Reading.{GivesValue, HasNoIndex, HasRead, HasReadIndex, IsIndexAt, IsTableNumbered, ReadsStore, ReadsTable, lives}
use Rattle.rs_store.specs.declared.reading.IndexKey.{IndexKey}
use Rattle.rs_store.proofs.Keeping.{keeps_by_moves, moves_by_reading, store_over}
use Rattle.rs_store.proofs.Numbered.{lies_at, none_lie}
use Rattle.rs_store.proofs.Placed.{goes_with, place_of_number}

-- the events of a table that is open, as they lie in pages with their entries in its indexes
pub record HoldsOpen (map : PageMap) (opened : OpenedTable) (events : List Event) : Type 0 where
  pub accepted : ℕ
  pub used : ℕ → ℕ
  pub uses : List (ℕ → ℕ)
  pub table : HoldsTable opened.records.types map opened.records.working opened.indexes.items accepted events used uses

-- so many of them live as are counted
pub living_open : (map : PageMap) (opened : OpenedTable) (events : List Event) → HoldsOpen map opened events → opened.records.working.living ≡ count_by lives events
living_open map opened events lie =
    let types = opened.records.types in
    sym (held_living (kept_events types) (events_are_kept types) map opened.records.working lie.accepted events lie.used lie.table.records)

-- ---- what is read of a table that is open

module _ (window : RouteWindow) (map_of : PageMap) (opened : OpenedTable) where
  -- the spans of its events
  pub spans_open : {Z : Type 0} (events : List Event) → HoldsOpen map_of opened events → (result : Result (Vec Span Z × ℕ) Refusal)
      → IfOk result (λ found. ReadsSpans opened.records.types map_of opened.records.working window (map seen found.0.items) found.1)
      → IfOk result (λ found. map seen found.0.items ≡ spans_in window events)
  spans_open events lie (Ok found) are = are.each events lie.used lie.accepted lie.table.records
  spans_open events lie (Err why) are = tt

  -- what was found says the spans of its events
  pub found_open : (events : List Event) → HoldsOpen map_of opened events → (result : Result FoundEvents Refusal)
      → IfOk result (λ found. (events : List Event) (used : ℕ → ℕ) (accepted : ℕ)
      → HoldsRecords (kept_events opened.records.types) map_of opened.records.working accepted events used → SaysSpans found (spans_in window events))
      → IfOk result (λ found. SaysSpans found (spans_in window events))
  found_open events lie (Ok found) says = says events lie.used lie.accepted lie.table.records
  found_open events lie (Err why) says = tt

  pub pages_open : {Z : Type 0} (file : OpenedFile) (number : ℕ) → IsTableNumbered file number opened → (result : Result (Vec Span Z × ℕ) Refusal)
      → IfOk result (λ found. ReadsSpans opened.records.types map_of opened.records.working window (map seen found.0.items) found.1) → IfOk result (λ found. ReadsTable map_of file number window found.1)
  pages_open file number at (Ok found) are = record { opened = opened; numbered = at; few = are.bounded; least = are.least }
  pages_open file number at (Err why) are = tt

pub has_read : {Z : Type 0} (map_of : PageMap) (file : OpenedFile) (number : ℕ) (window : RouteWindow) (result : Result (Vec Span Z × ℕ) Refusal)
    → IfOk result (λ found. ReadsTable map_of file number window found.1) → IfOk result (λ found. HasRead map_of file number window found.1)
has_read map_of file number window (Ok found) few = inr few
has_read map_of file number window (Err why) few = tt

-- its rows are of the columns of the table of the catalogue that has the number
pub rows_typed : {Z : Type 0} (file : OpenedFile) (catalog : Definitions) → IsAtRest file catalog → AreDefinitions catalog → (number : ℕ) (opened : OpenedTable) → IsTableNumbered file number opened
    → (name : Name) (item : TableItem) → names.get catalog.tables name ≡ Some item → item.number ≡ number → (result : Result (Vec Span Z × ℕ) Refusal)
    → IfOk result (λ found. AllByRecursion (λ (span : Stretch). IsRowOf opened.records.types span.row) (map seen found.0.items))
    → IfOk result (λ found. AllByRecursion (λ (span : Stretch). IsRowOf (column_types item.columns) span.row) (map seen found.0.items))
rows_typed file catalog rests are number opened at name item there same result rows =
    let numbered = subst (λ (n : ℕ). IsNumberedAt file.definitions.tables.items n at.place) (sym same) at.numbered in
    let place = place_of_number file catalog rests are name item at.place there numbered in
    subst (λ (types : List ColumnType). IfOk result (λ found. AllByRecursion (λ (span : Stretch). IsRowOf types span.row) (map seen found.0.items))) (place.types opened at.there) rows

-- ---- what an index of it finds

module _ (map_of : PageMap) (opened : OpenedTable) (events : List Event) (lie : HoldsOpen map_of opened events) (position : ℕ) (index : IndexState)
    (there : slice_get opened.indexes.items position ≡ Some index) where
  entries_open : (uses : ℕ → ℕ) × HoldsIndex index.field map_of index.working lie.table.records.cells uses
  entries_open =
      let goes = goes_with (λ (i : IndexState) (uses : ℕ → ℕ). HoldsIndex i.field map_of i.working lie.table.records.cells uses) opened.indexes.items lie.uses position index lie.table.entries there in
      (goes.one, goes.goes)

  pub value_open : {Z : Type 0} (column : ℕ) (datum : Datum) (window : RouteWindow) (result : Result (Vec Span Z × ℕ) Refusal)
      → IfOk result (λ found. FindsSpans opened.records.types column map_of opened.records.working index datum window (map seen found.0.items) found.1)
      → IfOk result (λ found. map seen found.0.items ≡ spans_with column datum window events)
  value_open column datum window (Ok found) are = are.each events lie.used entries_open.0 lie.accepted lie.table.records entries_open.1
  value_open column datum window (Err why) are = tt

  pub not_no_entries : HoldsNoEntries opened.records.types map_of opened.records.working index → ⊥
  not_no_entries none = none.none events lie.used entries_open.0 lie.accepted lie.table.records entries_open.1

pub index_pages : {Z : Type 0} (map_of : PageMap) (file : OpenedFile) (key : IndexKey) (opened : OpenedTable) → IsTableNumbered file key.table opened → (position : ℕ)
    → IsIndexAt (said_catalogue file.definitions).indexes key position → (index : IndexState) → slice_get opened.indexes.items position ≡ Some index → (column : ℕ) → column ≡ key.column
    → (datum : Datum) (window : RouteWindow) (result : Result (Vec Span Z × ℕ) Refusal)
    → IfOk result (λ found. FindsSpans opened.records.types column map_of opened.records.working index datum window (map seen found.0.items) found.1)
    → IfOk result (λ found. HasReadIndex map_of file key datum window found.1)
index_pages map_of file key opened numbered position at index there column same datum window (Err why) are = tt
index_pages map_of file key opened numbered position at index there column same datum window (Ok found) are =
    let here = subst (λ (k : ℕ). FindsSpans opened.records.types k map_of opened.records.working index datum window (map seen found.0.items) found.1) same are in
    inr (inr (record { opened = opened; numbered = numbered; position = position; at = at; index = index; there = there; few = here.bounded; least = here.least; none = here.none }))

-- the table is read where the file has no such index
pub table_pages : {Z : Type 0} (map_of : PageMap) (file : OpenedFile) (key : IndexKey) → HasNoIndex (said_catalogue file.definitions).indexes key → (datum : Datum) (window : RouteWindow)
    (result : Result (Vec Span Z × ℕ) Refusal) → IfOk result (λ found. ReadsTable map_of file key.table window found.1) → IfOk result (λ found. HasReadIndex map_of file key datum window found.1)
table_pages map_of file key none datum window (Ok found) few = inr (inl (none, few))
table_pages map_of file key none datum window (Err why) few = tt

pub table_gives : {Z : Type 0} (file : OpenedFile) (key : IndexKey) → HasNoIndex (said_catalogue file.definitions).indexes key → (datum : Datum) (window : RouteWindow) (events : List Event)
    (result : Result (Vec Span Z × ℕ) Refusal) → IfOk result (λ found. map seen found.0.items ≡ spans_in window events)
    → IfOk result (λ found. GivesValue file key datum window events (map seen found.0.items))
table_gives file key none datum window events (Ok found) are = inr (none, are)
table_gives file key none datum window events (Err why) are = tt

pub value_gives : {Z : Type 0} (file : OpenedFile) (key : IndexKey) (column : ℕ) → column ≡ key.column → (datum : Datum) (window : RouteWindow) (events : List Event) (result : Result (Vec Span Z × ℕ) Refusal)
    → IfOk result (λ found. map seen found.0.items ≡ spans_with column datum window events) → IfOk result (λ found. GivesValue file key datum window events (map seen found.0.items))
value_gives file key column same datum window events (Ok found) are = inl (are ∙ ap (λ (k : ℕ). spans_with k datum window events) same)
value_gives file key column same datum window events (Err why) are = tt

-- a file's index at its position is one of its table
pub indexed_open : (file : OpenedFile) → IsReady file → (key : IndexKey) (position : ℕ) → IsIndexAt (said_catalogue file.definitions).indexes key position → (at : ColumnIndex) → at.position ≡ position
    → at.column ≡ key.column → (opened : OpenedTable) → IsTableNumbered file key.table opened → IsIndexed opened at
indexed_open file ready key position one at place column opened numbered =
    let said = said_catalogue file.definitions in
    let here : slice_get said.tables numbered.place ≡ Some (said_table numbered.numbered.table) =
    slice_get-map said_table file.definitions.tables.items numbered.place ∙ ap (option_map said_table) numbered.numbered.there in
    let goes = goes_with (IsOfItem said) said.tables file.tables.items numbered.place (said_table numbered.numbered.table) ready.tables here in
    let same : goes.one ≡ opened = same_Some goes.one opened (sym goes.there ∙ numbered.there) in
    let of = subst (λ (o : OpenedTable). IsOfItem said (said_table numbered.numbered.table) o) same goes.goes in
    let on = subst (λ (n : ℕ). AllZip (IsIndexOf opened.records.types) (indexes_on said.indexes n) opened.indexes.items) numbered.numbered.numbered of.indexes in
    let index = goes_with (IsIndexOf opened.records.types) (indexes_on said.indexes key.table) opened.indexes.items position one.item on one.there in
    let parts = and_parts (one.item.table == key.table && one.item.number == key.number) (one.item.column == key.column) one.is in
    let of_column : one.item.column ≡ at.column = eqb-true one.item.column key.column parts.1 ∙ sym column in
    record {
      index = index.one;
      there = ap (slice_get opened.indexes.items) place ∙ index.there;
      column = subst (λ (k : ℕ). IsColumn opened.records.types k index.one.field) of_column index.goes.column;
      fits = subst (λ (k : ℕ). FitsPages opened.records.types k) of_column index.goes.fits;
    }

pub not_no_events : (map : PageMap) (opened : OpenedTable) (events : List Event) → HoldsOpen map opened events → HoldsNoEvents opened.records.types map opened.records.working → ⊥
not_no_events map opened events lie none = none.none events lie.used lie.accepted lie.table.records

module _ {D : Type 0} (d : disk.Ghosts D) where
  -- ---- what a read leaves

  failures_stay : {T : Type 0} (r : Result T Refusal) (was now : Paged D) → RefusesToLoad r → RestsAfter (IsTied d) (pager_store d) (KeepsBelow d) r was now
      → d.failures was.disk ≤ d.failures now.disk
  failures_stay (Ok x) was now refused rests = omega (arith, rests.count)
  failures_stay (Err why) was now refused rests = elim refused [
    | inl memory ↦ omega (arith, rests.count.other (λ is. cc (is, memory)))
    | inr (inl failed) ↦ omega (arith, rests.count.disk failed, counted_on_le (d.failures was.disk))
    | inr (inr damaged) ↦ omega (arith, rests.count.other (λ is. cc (is, damaged)))
  ]

  pub reads_by_reading : {T : Type 0} (r : Result T Refusal) (was now : Paged D) (file : OpenedFile) (catalog : Definitions) (referents : Numbered HeldReferents)
      → RefusesToLoad r → RestsAfter (IsTied d) (pager_store d) (KeepsBelow d) r was now
      → ReadsStore d (store_over d was file catalog referents) (store_over d now file catalog referents)
  reads_by_reading r was now file catalog referents refused rests = record {
    keeps = keeps_by_moves d was now file catalog referents (moves_by_reading d r was now rests);
    tied = rests.below.tied;
    committed_pages = rests.below.committed;
    working_pages = rests.rests.keeps.pages;
    changes = record {
      held = rests.rests.keeps.held;
      lacks = rests.below.lacks;
      committed_fields = rests.below.committed_fields;
      working_fields = rests.rests.keeps.fields;
    };
    seen = rests.below.unwritten;
    failures = failures_stay r was now refused rests;
  }

  pub count_by_reading : {T : Type 0} (r : Result T Refusal) (was now : Paged D) → RestsAfter (IsTied d) (pager_store d) (KeepsBelow d) r was now
      → MatchResult r (λ _. d.failures now.disk ≡ d.failures was.disk) (λ why. CountsFault why (d.failures was.disk) (d.failures now.disk))
  count_by_reading (Ok x) was now rests = rests.count
  count_by_reading (Err why) was now rests = record { disk = rests.count.disk; other = rests.count.other }

  -- ---- what it finds

  module _ (store : StoreState D) (contents : Contents) (keeps : Keeps d store contents) (number : ℕ) where
    said_same : contents.definitions ≡ said_catalogue store.file.definitions
    said_same = keeps.opened.definitions

    given_once : times (table_numbers (said_catalogue store.file.definitions)) number ≤ 1
    given_once = subst (λ (said : CatalogueItems). times (table_numbers said) number ≤ 1) said_same (keeps.holds.said.numbered.given.tables_once number)

    -- a table that is not there has no events
    pub no_events : HasNoNumber store.file.definitions.tables.items number → events_of contents number ≡ []
    no_events none =
        ap (λ (said : CatalogueItems). events_with said.tables contents.tables number) said_same ∙ none_lie store.file.definitions.tables.items contents.tables number none

    -- one that is there has its events in the pages
    pub events_open : (opened : OpenedTable) → IsTableNumbered store.file number opened → HoldsOpen (working d store.pager) opened (events_of contents number)
    events_open opened at =
        let level = contents.directory.accepted in
        let pages = committed d store.pager in
        let file = store.file in
        let one = lies_at number (LiesTable pages level) file.definitions.tables.items file.tables.items contents.tables at.place at.numbered.table opened at.numbered.there at.numbered.numbered
        at.there keeps.opened.tables keeps.holds.parts.tables given_once in
        let are : events_of contents number ≡ one.table.events = ap (λ (said : CatalogueItems). events_with said.tables contents.tables number) said_same ∙ one.are in
        record {
          accepted = level;
          used = one.table.used;
          uses = one.table.uses;
          table =
              subst (λ (events : List Event). HoldsTable opened.records.types (working d store.pager) opened.records.working opened.indexes.items level events one.table.used one.table.uses) (sym are)
              (subst (λ (types : List ColumnType). HoldsTable types (working d store.pager) opened.records.working opened.indexes.items level one.table.events one.table.used one.table.uses) (sym one.as_opened.types)
              (subst (λ (standing : Standing). HoldsTable one.table.types (working d store.pager) standing opened.indexes.items level one.table.events one.table.used one.table.uses) (sym one.as_opened.stands)
              (subst (λ (indexes : List IndexState). HoldsTable one.table.types (working d store.pager) one.table.standing indexes level one.table.events one.table.used one.table.uses) (sym one.as_opened.indexes)
              (subst (λ (m : PageMap). HoldsTable one.table.types m one.table.standing one.table.indexes level one.table.events one.table.used one.table.uses)
              (sym (same_map (working d store.pager) pages keeps.same)) one.lies))));
        }
