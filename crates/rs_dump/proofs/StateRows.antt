-- The commands of rows: as a state tells them, and as they were written.
use Rattle.std.proofs.Common.{◌≡◌, ◌∙◌, ℕ, List, [], ap, map, refl, subst, sym}
use Rattle.std.specs.Prelude.{Option, Some, None, flat_map, option_map}
use Rattle.std.specs.FinMap as names
use Rattle.rs_catalog.specs.Definitions.{Definitions, Numbered, Rest, RouteItem, TableItem, facts_from, no_places, on_numbered, table_from, tables_from}
use Rattle.rs_catalog.specs.Referents.{HeldReferents}
use Rattle.rs_catalog.proofs.MapLaws.{some_same}
use Rattle.rs_catalog.proofs.Names.{each_entry, entries-map_values}
use Rattle.rs_catalog.proofs.StateLaws.{get-routes_of, get-tables_from}
use Rattle.rs_dump.specs.Dumped.{all_rows}
use Rattle.rs_dump.specs.Sections.{named_route, named_table, rows_of_table, rows_on}
use Rattle.rs_dump.specs.Shown.{Shown}
use Rattle.rs_dump_laws.specs.Dump.{location_of, row_command}
use Rattle.rs_dump_laws.specs.Listed.{AreRunsOfTables, listed_rows, placed_row}
use Rattle.rs_dump_laws.specs.Parts.{PlacedRow}
use Rattle.rs_facts.specs.Fact.{Name, Places}
use Rattle.rs_facts.specs.Query.{RouteEnds, Table, table_kind}
use Rattle.rs_facts.specs.Runs.{Stretch}
use Rattle.rs_facts.specs.Spans.{AreAllRunsOf, places_of}
use Rattle.rs_machine.specs.State.{State}
use Rattle.rs_syntax.specs.Tree.{CommandTree, insert}
use Rattle.rs_value.specs.declared.column.Kind.{Kind}
use Rattle.rs_dump.proofs.Elements.{all_weaker}
use Rattle.rs_dump.proofs.Mapped.{flat_alike, flat_mapped, map_flat, map_twice}
use Rattle.rs_dump.proofs.StateCommands.{state_of, with_ends}

-- the spans that are shown of a table on a route, by their names
abbrev shown_of : Shown → Option TableItem → Option RouteItem → List Stretch
shown_of shown (Some table) (Some route) = shown table.number table.kind route.number
shown_of shown (Some table) None = []
shown_of shown None route = []

abbrev pub spans_named : Definitions → Shown → Name → Name → List Stretch
spans_named definitions shown table route = shown_of shown (names.get definitions.tables table) (names.get definitions.routes route)

module _ (definitions : Definitions) (held : Numbered HeldReferents) (shown : Shown) (spans_on : ℕ → ℕ → List Stretch) (rest : Rest) where
  abbrev the_state : State
  the_state = state_of definitions held spans_on rest

  abbrev spans : Name → Name → List Stretch
  spans = spans_named definitions shown

  abbrev IsTableUnder : Name → TableItem → Type 0
  IsTableUnder name table = names.get definitions.tables name ≡ Some table

  abbrev IsRouteUnder : Name → RouteItem → Type 0
  IsRouteUnder name route = names.get definitions.routes name ≡ Some route

  spans_there : (name : Name) (table : TableItem) → IsTableUnder name table → (on : Name) (route : RouteItem) → IsRouteUnder on route → spans name on ≡ shown table.number table.kind route.number
  spans_there name table there on route also = λ i. shown_of shown (there i) (also i)

  -- ---- the rows are the runs of the state's tables

  -- the spans that are shown of each table on each route are all runs of its facts there
  abbrev pub AreRuns : Type 0
  AreRuns = (name : Name) (table : TableItem) → IsTableUnder name table → (on : Name) (route : RouteItem) → IsRouteUnder on route
      → AreAllRunsOf table.kind (places_of (spans_on table.number route.number)) (shown table.number table.kind route.number)

  facts_there : (table : TableItem) (on : Name) (route : RouteItem) → IsRouteUnder on route → facts_from definitions.routes (spans_on table.number) on ≡ places_of (spans_on table.number route.number)
  unfolding facts_from
  facts_there table on route there = ap (on_numbered no_places (λ (number : ℕ). places_of (spans_on table.number number))) there

  runs_of_items : AreRuns → (name : Name) (table : TableItem) → IsTableUnder name table → (on : Name) (route : RouteItem) → IsRouteUnder on route
      → AreAllRunsOf table.kind (facts_from definitions.routes (spans_on table.number) on) (spans name on)
  runs_of_items are name table there on route also =
      subst (λ (places : Places). AreAllRunsOf table.kind places (spans name on)) (sym (facts_there table on route also))
      (subst (λ (all : List Stretch). AreAllRunsOf table.kind (places_of (spans_on table.number route.number)) all) (sym (spans_there name table there on route also))
      (are name table there on route also))

  pub runs_of_tables : AreRuns → AreRunsOfTables the_state spans
  runs_of_tables are name table there on ends also =
      by (names.get definitions.tables name) refl (names.get definitions.routes on) refl
      (sym (get-tables_from definitions spans_on name) ∙ there) (sym (get-routes_of definitions on) ∙ also)
    where
      by : (found : Option TableItem) → names.get definitions.tables name ≡ found → (route : Option RouteItem) → names.get definitions.routes on ≡ route
          → option_map (table_from definitions.routes spans_on) found ≡ Some table → option_map (λ (item : RouteItem). item.ends) route ≡ Some ends → AreAllRunsOf table.kind (table.facts on) (spans name on)
      by None at route on_route is on_ends = absurd (let wrong : ◌≡◌ {A = Option Table} None (Some table) = is in cc)
      by (Some item) at None on_route is on_ends = absurd (let wrong : ◌≡◌ {A = Option RouteEnds} None (Some ends) = on_ends in cc)
      by (Some item) at (Some route) on_route is on_ends =
          subst (λ (t : Table). AreAllRunsOf t.kind (t.facts on) (spans name on)) (some_same (table_from definitions.routes spans_on item) table is) (runs_of_items are name item at on route on_route)

  -- ---- their commands

  kind_there : (name : Name) (table : TableItem) → IsTableUnder name table → table_kind (names.get the_state.tables name) ≡ table.kind
  kind_there name table there = ap table_kind (get-tables_from definitions spans_on name ∙ ap (option_map (table_from definitions.routes spans_on)) there)

  abbrev placed_on : Name → Name × RouteEnds → List PlacedRow
  placed_on table route = map (placed_row table route.0) (spans table route.0)

  abbrev placed_of : Name → List PlacedRow
  placed_of table = flat_map (placed_on table) (names.entries the_state.routes)

  abbrev shown_on : Name × (ℕ × Kind) → Name × ℕ → List CommandTree
  shown_on table route = rows_on table.0 route.0 table.1.1 (shown table.1.0 table.1.1 route.1)

  on_one : (entry : Name × TableItem) → IsTableUnder entry.0 entry.1 → (route : Name × RouteItem) → IsRouteUnder route.0 route.1
      → map (row_command the_state) (placed_on entry.0 (with_ends route)) ≡ shown_on (named_table entry) (named_route route)
  on_one entry there route also =
      let kind = kind_there entry.0 entry.1 there in
      let all = spans_there entry.0 entry.1 there route.0 route.1 also in
      map_twice (placed_row entry.0 route.0) (row_command the_state) (spans entry.0 route.0)
      ∙ (λ i. map (λ (span : Stretch). insert entry.0 route.0 (location_of (kind i) span) span.row) (all i))

  of_one : (entry : Name × TableItem) → IsTableUnder entry.0 entry.1
      → map (row_command the_state) (placed_of entry.0) ≡ rows_of_table (named_table entry) (map named_route (names.entries definitions.routes)) shown
  of_one entry there =
      map_flat (placed_on entry.0) (row_command the_state) (names.entries the_state.routes)
      ∙ ap (flat_map (λ (route : Name × RouteEnds). map (row_command the_state) (placed_on entry.0 route))) (entries-map_values (λ (item : RouteItem). item.ends) definitions.routes)
      ∙ flat_mapped with_ends (λ (route : Name × RouteEnds). map (row_command the_state) (placed_on entry.0 route)) (names.entries definitions.routes)
      ∙ flat_alike (λ (route : Name × RouteItem). map (row_command the_state) (placed_on entry.0 (with_ends route))) (λ route. shown_on (named_table entry) (named_route route)) (names.entries definitions.routes)
      (all_weaker (λ (route : Name × RouteItem). IsRouteUnder route.0 route.1) (λ route. map (row_command the_state) (placed_on entry.0 (with_ends route)) ≡ shown_on (named_table entry) (named_route route))
      (on_one entry there) (names.entries definitions.routes) (each_entry definitions.routes))
      ∙ sym (flat_mapped named_route (shown_on (named_table entry)) (names.entries definitions.routes))

  abbrev with_facts : Name × TableItem → Name × Table
  with_facts entry = (entry.0, table_from definitions.routes spans_on entry.1)

  abbrev rows_told : Name × (ℕ × Kind) → List CommandTree
  rows_told table = rows_of_table table (map named_route (names.entries definitions.routes)) shown

  entries_of_tables : names.entries the_state.tables ≡ map with_facts (names.entries definitions.tables)
  unfolding tables_from
  entries_of_tables = entries-map_values (table_from definitions.routes spans_on) definitions.tables

  pub same_rows : map (row_command the_state) (listed_rows the_state spans) ≡ all_rows definitions shown
  same_rows =
      map_flat (λ (table : Name × Table). placed_of table.0) (row_command the_state) (names.entries the_state.tables)
      ∙ ap (flat_map (λ (table : Name × Table). map (row_command the_state) (placed_of table.0))) entries_of_tables
      ∙ flat_mapped with_facts (λ (table : Name × Table). map (row_command the_state) (placed_of table.0)) (names.entries definitions.tables)
      ∙ flat_alike (λ (entry : Name × TableItem). map (row_command the_state) (placed_of entry.0)) (λ entry. rows_told (named_table entry)) (names.entries definitions.tables)
      (all_weaker (λ (entry : Name × TableItem). IsTableUnder entry.0 entry.1) (λ entry. map (row_command the_state) (placed_of entry.0) ≡ rows_told (named_table entry)) of_one
      (names.entries definitions.tables) (each_entry definitions.tables))
      ∙ sym (flat_mapped named_table rows_told (names.entries definitions.tables))
