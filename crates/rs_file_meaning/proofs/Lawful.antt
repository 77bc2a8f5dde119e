-- The state of a file is lawful.
use Rattle.std.proofs.Common.{◌≡◌, ◌<◌, ◌≤◌, ◌+◌, ◌&&◌, ◌==◌, ℕ, Bool, true, false, cond, Some, None, List, [], ◌∷◌, length, map, filter, refl, sym, ap, subst, ◌∙◌, arith}
use Rattle.std.specs.Prelude.{◌≢◌, Contains, nat_le, nat_lt}
use Rattle.std.specs.FinMap as names
use Rattle.std.specs.FinMap.{get-empty, get-from_entries, len-empty, len-entries, len-insert}
use Rattle.std.proofs.lemmas.Bool.{and_parts, eqb-true, false≢true}
use Rattle.std.proofs.lemmas.List.Elements.{All-contains, All-from_recursion}
use Rattle.std.proofs.lemmas.Option.{none-some}
use Rattle.rs_catalog.specs.Definitions as catalog
use Rattle.rs_catalog.specs.Definitions.{Definitions, facts_from, indexed_column, no_places, on_numbered, referents_from, routes_of, state_from, table_from, tables_from, views_of}
use Rattle.rs_catalog.specs.Names.{map_values}
use Rattle.rs_catalog.proofs.NameOrder.{name_cmp-total}
use Rattle.rs_catalog.proofs.Names.{len-map_values}
use Rattle.rs_catalog_meaning.specs.Meaning as meaning
use Rattle.rs_catalog_meaning.specs.Meaning.{AreMeant, columns_of, column_of, ends_of, route_numbers}
use Rattle.rs_catalog_meaning.specs.Stating as stating
use Rattle.rs_catalog_pages.specs.Items.{CatalogueItems, ColumnItem, IndexItem, RouteItem, TableItem}
use Rattle.rs_facts.specs.Fact.{Name, Names, contains, name_cmp}
use Rattle.rs_facts.specs.Query.{Piece, RouteEnds, Table}
use Rattle.rs_facts.specs.Runs.{Stretch}
use Rattle.rs_facts.specs.Spans.{places_of}
use Rattle.rs_file.specs.Contents.{Contents, HoldsAll, IsTable, LiesTable, TableContents, type_of}
use Rattle.rs_facts.proofs.Sets.{contains-none}
use Rattle.rs_facts.proofs.SpanLaws.{Covers-from_contains}
use Rattle.rs_machine.specs.Checks.{column_types}
use Rattle.rs_machine.specs.Lawful as lawful
use Rattle.rs_machine.specs.Lawful.{AreViewsMeant, IsLawful, IsPlaceOf, MayHoldAt}
use Rattle.rs_machine.specs.State.{State, no_cursors}
use Rattle.rs_machine.specs.declared.limits.TheConstants.{ALIGNMENTS, INDEXES, REFERENTS, ROUTES, TABLES, VIEWS}
use Rattle.rs_pages.specs.PageMap.{PageMap}
use Rattle.rs_planning.specs.Basis.{IndexedColumn}
use Rattle.rs_methods.specs.Position.{start_name}
use Rattle.rs_syntax.specs.QueryView.{query_tree}
use Rattle.rs_syntax.specs.Sound.{IsName}
use Rattle.rs_value.specs.declared.column.ColumnType.{ColumnType}
use Rattle.rs_value.specs.declared.column.Kind.{Kind}
use Rattle.rs_value.specs.declared.column.Kind.TheVariants.{Line, Point}
use Rattle.rs_value.specs.Encoding.{SaysRow}
use Rattle.rs_value.specs.Row.{Row}
use Rattle.rs_value.specs.Values.{IsRowOf}
use Rattle.rs_versioned.specs.Events.{Event, SaysEvent, is_on, sees_event, span_of}
use Rattle.rs_versioned.specs.Referents.{ReferentRecord, is_referent_of, kept_referents, referents_at}
use Rattle.rs_versioned.specs.Records.{is_seen}
use Rattle.rs_versioned.specs.Meant as versioned
use Rattle.rs_versioned.specs.Meant.{AreReferentsMeant, HasRoute, IsReferentMeant, IsSpanOf}
use Rattle.rs_versioned.specs.declared.route_span.RouteSpan.{RouteSpan}
use Rattle.rs_file_meaning.specs.Meant.{AreRecordsMeant, IsMeant, IsTableMeant}
use Rattle.rs_file_meaning.specs.Seen.{born_by, events_of, is_born, referents_seen, routes_at, span_of_route, spans_seen}
use Rattle.rs_file_meaning.specs.Standing.{StandsFor}
use Rattle.rs_file_meaning.specs.States.{AreDefinitionsAt, IsViewOf, named_index, named_route, named_table, routes_named}
use Rattle.rs_file_meaning.proofs.Named.{HasItem, found_item, get_there, item_of, len_by, values_changed}
use Rattle.rs_file_meaning.proofs.Picked.{HasTable, as_many, beside, born_all, each_kept, kept_passes, kept_there, same_numbered, source_of, table_of}

-- what is said of definitions and of rows
abbrev pub MeantAreLawful : Type 0
MeantAreLawful = (catalogue : CatalogueItems) → AreMeant catalogue → IsLawful (stating.state_of catalogue)

abbrev pub RowsFit : Type 0
RowsFit = (types : List ColumnType) (bytes : List ℕ) (row : Row) → SaysRow types bytes row → IsRowOf types row

-- ---- small parts

-- where a span along which a row holds lies on a route, the row may hold
may_hold : (kind : Kind) (span : Stretch) (route : RouteItem) (k : ℕ) → IsSpanOf kind span (span_of_route route) → span.lo ≤ k → k < span.hi → MayHoldAt kind k (ends_of route)
may_hold Line span route k lies from below = (omega (arith, lies.0, from), omega (arith, lies.1, below))
may_hold Point span route k lies from below = (omega (arith, lies.0, from), omega (arith, lies.1, below))

types_of : (columns : List ColumnItem) → column_types (columns_of columns) ≡ map type_of columns
types_of [] = refl
types_of (column ∷ columns) = ap (λ l. type_of column ∷ l) (types_of columns)

one_less : (b : Bool) (n m : ℕ) → n ≤ m → cond b n (n + 1) ≤ m + 1
one_less true n m h = omega arith
one_less false n m h = omega arith

-- no more stand under names than were listed
few_entries : {X : Type 0} (es : List (Name × X)) → names.len (names.from_entries {R = name_cmp} es) ≤ length es
few_entries {X} [] = omega (arith, len-empty name_cmp X)
few_entries (e ∷ es) =
    let rest = names.from_entries {R = name_cmp} es in
    let few = one_less (names.contains_key rest e.0) (names.len rest) (length es) (few_entries es) in
    omega (arith, few, len-insert name_cmp-total rest e.0 e.1)

module _ (pages : PageMap) (contents : Contents) (definitions : Definitions) (holds : HoldsAll pages contents) (meant : IsMeant contents.directory.accepted contents)
    (are : AreDefinitionsAt contents.directory.accepted contents.definitions definitions) where
  abbrev catalogue : CatalogueItems
  catalogue = contents.definitions

  abbrev accepted : ℕ
  accepted = contents.directory.accepted

  abbrev refs : ℕ → Names ℕ
  refs = referents_seen contents accepted

  abbrev spans : ℕ → ℕ → List Stretch
  spans = spans_seen contents accepted

  abbrev state : State
  state = state_from definitions refs spans (record { changes = accepted; cursors = no_cursors })

  born : born_by accepted catalogue.routes ≡ catalogue.routes
  born = born_all accepted catalogue.routes holds.routes

  routes_kept : definitions.routes ≡ routes_named catalogue.routes
  routes_kept = are.routes ∙ ap routes_named born

  routes_are : state.routes ≡ meaning.routes_of catalogue.routes
  routes_are =
      ap (map_values (λ (item : catalog.RouteItem). item.ends)) routes_kept
      ∙ values_changed (λ (route : RouteItem). route.name) (λ route. (named_route route).1) (λ (item : catalog.RouteItem). item.ends)
      catalogue.routes meant.definitions.routes.in_order

  full_table : TableItem → Table
  full_table table = table_from definitions.routes spans (named_table table).1

  tables_are : state.tables ≡ names.from_sorted (map (λ (table : TableItem). (table.name, full_table table)) catalogue.tables)
  unfolding tables_from full_table
  tables_are =
      ap (map_values (table_from definitions.routes spans)) are.tables
      ∙ values_changed (λ (table : TableItem). table.name) (λ table. (named_table table).1) (table_from definitions.routes spans) catalogue.tables meant.definitions.tables.in_order

  indexes_are : state.indexes ≡ stating.indexes_of catalogue.tables catalogue.indexes
  indexes_are =
      ap (map_values indexed_column) are.indexes
      ∙ values_changed (λ (index : IndexItem). index.name) (λ index. (named_index catalogue.tables index).1) indexed_column catalogue.indexes meant.definitions.indexes.in_order

  -- ---- routes by their numbers

  named_there : (route : RouteItem) → Contains catalogue.routes route → names.get state.routes route.name ≡ Some (ends_of route)
  named_there route there =
      subst (λ (routes : Names RouteEnds). names.get routes route.name ≡ Some (ends_of route)) (sym routes_are)
      (get_there (λ (r : RouteItem). r.name) ends_of catalogue.routes route meant.definitions.routes.in_order there)

  -- what is so of the route with its number is so of the route
  so_numbered : (route : RouteItem) (number : ℕ) (IsSo : RouteSpan → Type 0) → Contains catalogue.routes route → number ≡ route.number
      → HasRoute (routes_at accepted catalogue.routes) number IsSo → IsSo (span_of_route route)
  so_numbered route number IsSo there same on =
      let from = source_of span_of_route (born_by accepted catalogue.routes) on.route on.there in
      let among = kept_there (is_born accepted) catalogue.routes from.source from.there in
      let one : from.source ≡ route =
      same_numbered (λ (r : RouteItem). r.number) catalogue.routes from.source route among there (ap (λ (span : RouteSpan). span.number) from.is ∙ on.numbered ∙ same)
      (meant.definitions.routes.numbers_once from.source.number) in
      subst (λ (r : RouteItem). IsSo (span_of_route r)) one (subst IsSo (sym from.is) on.is_so)

  -- a route that is found by its name
  route_of : (name : Name) (kept : catalog.RouteItem) → names.get definitions.routes name ≡ Some kept
      → HasItem (λ (route : RouteItem). route.name) (λ route. (named_route route).1) catalogue.routes name kept
  route_of name kept there =
      item_of (λ (route : RouteItem). route.name) (λ route. (named_route route).1) catalogue.routes name kept meant.definitions.routes.in_order
      (sym (ap (λ (routes : Names catalog.RouteItem). names.get routes name) routes_kept) ∙ there)

  -- ---- tables

  abbrev Meant : TableItem → TableContents → Type 0
  Meant = IsTableMeant catalogue.routes accepted

  records : AreRecordsMeant accepted contents
  records = meant.records accepted (omega arith) (omega arith)

  abbrev Said : TableItem → TableContents → Type 0
  Said = IsTable contents.directory catalogue.indexes

  table_for : (item : TableItem) → Contains catalogue.tables item → HasTable Meant Said (LiesTable pages accepted) catalogue.tables contents.tables item
  table_for item there =
      table_of Meant Said (LiesTable pages accepted) item catalogue.tables contents.tables there records.tables holds.said.tables holds.parts.tables
      (holds.said.numbered.given.tables_once item.number)

  -- an event of the table has a row of its columns
  row_fits : RowsFit → (item : TableItem) (table : TableContents) (event : Event) → Said item table → LiesTable pages accepted table → Contains table.events event
      → IsRowOf (column_types (columns_of item.columns)) event.row
  row_fits fit item table event said lies there =
      let cell = beside (SaysEvent table.types) lies.records.cells table.events event lies.records.say there in
      subst (λ types. IsRowOf types event.row) (said.types ∙ sym (types_of item.columns)) (fit table.types cell.1.bytes event.row cell.1.row)

  fact_of : RowsFit → (item : TableItem) → Contains catalogue.tables item → (route : RouteItem) → Contains catalogue.routes route → (k : ℕ) (row : Row)
      → contains (places_of (spans item.number route.number) k) row ≡ true → lawful.IsFactOf state.routes (full_table item) route.name k row
  unfolding full_table
  fact_of fit item there route on k row held =
      let has = table_for item there in
      let covers = Covers-from_contains (spans item.number route.number) row k held in
      let from = source_of span_of (filter (is_on accepted route.number) (events_of contents item.number)) covers.span covers.among in
      let among = kept_there (is_on accepted route.number) (events_of contents item.number) from.source from.there in
      let parts = and_parts (from.source.route == route.number) (sees_event accepted from.source) (kept_passes (is_on accepted route.number) (events_of contents item.number) from.source from.there) in
      let event : Contains has.table.events from.source = subst (λ events. Contains events from.source) has.events among in
      let kind = stating.kind_of item.kind in
      let lies = each_kept (sees_event accepted) (λ event. HasRoute (routes_at accepted catalogue.routes) event.route (IsSpanOf kind (span_of event))) has.table.events from.source has.one.lie event parts.1 in
      let low : from.source.lo ≤ k = subst (λ (span : Stretch). span.lo ≤ k) (sym from.is) covers.is.from in
      let high : k < from.source.hi = subst (λ (span : Stretch). k < span.hi) (sym from.is) covers.is.below in
      let same : from.source.row ≡ row = ap (λ (span : Stretch). span.row) from.is ∙ covers.is.same in
      let is_so = so_numbered route from.source.route (IsSpanOf kind (span_of from.source)) on (eqb-true from.source.route route.number parts.0) lies in
      record {
        fits = subst (IsRowOf (column_types (columns_of item.columns))) same (row_fits fit item has.table from.source has.other has.third event);
        lies = record { ends = ends_of route; there = named_there route on; is_so = may_hold kind (span_of from.source) route k is_so low high };
      }

  facts_lie : RowsFit → (item : TableItem) → Contains catalogue.tables item → (route : Name) (k : ℕ) (row : Row)
      → contains ((full_table item).facts route k) row ≡ true → lawful.IsFactOf state.routes (full_table item) route k row
  unfolding full_table facts_from
  facts_lie fit item there route k row held =
      elim (names.get definitions.routes route) as (λ o. names.get definitions.routes route ≡ o → contains (on_numbered no_places (λ number. places_of (spans item.number number)) o k) row ≡ true
      → lawful.IsFactOf state.routes (full_table item) route k row) [
        | None ↦ λ none is. absurd (false≢true (sym (contains-none row) ∙ is))
        | Some kept ↦ λ found is.
            let has = route_of route kept found in
            subst (λ (name : Name). lawful.IsFactOf state.routes (full_table item) name k row) has.named
            (fact_of fit item there has.item has.there k row
            (subst (λ (r : catalog.RouteItem). contains (places_of (spans item.number r.number) k) row ≡ true) (sym has.is) is))
      ] refl held

  each_table : RowsFit → lawful.Each state.tables (lawful.IsTable state.routes)
  unfolding full_table
  each_table fit name table there =
      let has = item_of (λ (t : TableItem). t.name) full_table catalogue.tables name table meant.definitions.tables.in_order
      (subst (λ (tables : Names Table). names.get tables name ≡ Some table) tables_are there) in
      let is = All-contains meaning.IsTable catalogue.tables has.item (All-from_recursion meaning.IsTable catalogue.tables meant.definitions.tables.each) has.there in
      subst (λ (n : Name). lawful.IsTable state.routes n table) has.named
      (subst (lawful.IsTable state.routes has.item.name) has.is (record {
        named = is.named;
        columns = is.columns;
        facts = λ route k row held. facts_lie fit has.item has.there route k row held;
      }))

  -- ---- indexes

  index_on : (name : Name) (index : IndexedColumn) → lawful.IsIndex (stating.tables_of catalogue.tables) name index → lawful.IsIndex state.tables name index
  unfolding full_table
  index_on name index is =
      let has = item_of (λ (t : TableItem). t.name) (λ t. (stating.named_table t).1) catalogue.tables index.table is.table meant.definitions.tables.in_order is.there in
      record {
        named = is.named;
        table = full_table has.item;
        there = subst (λ (n : Name). names.get state.tables n ≡ Some (full_table has.item)) has.named
            (subst (λ (tables : Names Table). names.get tables has.item.name ≡ Some (full_table has.item)) (sym tables_are)
            (get_there (λ (t : TableItem). t.name) full_table catalogue.tables has.item meant.definitions.tables.in_order has.there));
        column = subst (λ (t : Table). index.column < length t.columns) (sym has.is) is.column;
      }

  -- ---- referents

  abbrev listed : ℕ → List (Name × ℕ)
  listed number = referents_at accepted number contents.referents.referents

  referents_meant : AreReferentsMeant (routes_at accepted catalogue.routes) accepted contents.referents.referents
  referents_meant = records.referents

  -- a referent of a route
  record HasReferent (route : RouteItem) (name : Name) (measure : ℕ) : Type 0 where
    is : IsReferentMeant (routes_at accepted catalogue.routes) (record { route = route.number; name = name; measure = measure; born = 0; died = 0 })

  referent_of : (route : RouteItem) (name : Name) (measure : ℕ) → names.get (refs route.number) name ≡ Some measure → HasReferent route name measure
  referent_of route name measure there =
      let all = contents.referents.referents in
      let has = found_item (λ (r : ReferentRecord). r.name) (λ r. r.measure) (filter (is_referent_of accepted route.number) all) name measure
      (sym (get-from_entries name_cmp-total (listed route.number) name) ∙ there) in
      let parts = and_parts (has.item.route == route.number) (nat_le has.item.born accepted && nat_lt accepted has.item.died) (kept_passes (is_referent_of accepted route.number) all has.item has.there) in
      let is = each_kept (is_seen kept_referents accepted) (IsReferentMeant (routes_at accepted catalogue.routes)) all has.item referents_meant.each
      (kept_there (is_referent_of accepted route.number) all has.item has.there) parts.1 in
      record {
        is = record {
          named = subst IsName has.named is.named;
          not_start = subst (λ (n : Name). n ≢ start_name) has.named is.not_start;
          lies = subst (λ (n : ℕ). HasRoute (routes_at accepted catalogue.routes) n (versioned.IsPlaceOf measure)) (eqb-true has.item.route route.number parts.0)
              (subst (λ (m : ℕ). HasRoute (routes_at accepted catalogue.routes) has.item.route (versioned.IsPlaceOf m)) has.is is.lies);
        };
      }

  each_referent : (route : Name) → lawful.Each (state.referents route) (lawful.IsReferent state.routes route)
  unfolding referents_from
  each_referent route name measure there =
      elim (names.get definitions.routes route) as (λ o. names.get definitions.routes route ≡ o → names.get (on_numbered names.empty refs o) name ≡ Some measure
      → lawful.IsReferent state.routes route name measure) [
        | None ↦ λ none is. absurd (none-some measure (sym (get-empty name_cmp name) ∙ is))
        | Some kept ↦ λ found is.
            let has = route_of route kept found in
            let referent = referent_of has.item name measure (subst (λ (r : catalog.RouteItem). names.get (refs r.number) name ≡ Some measure) (sym has.is) is) in
            record {
              not_start = referent.is.not_start;
              lies = subst (λ (n : Name). lawful.OnRoute state.routes n (IsPlaceOf measure)) has.named (record {
                ends = ends_of has.item;
                there = named_there has.item has.there;
                is_so = so_numbered has.item has.item.number (versioned.IsPlaceOf measure) has.there refl referent.is.lies;
              });
            }
      ] refl there

  each_named : (route name : Name) (measure : ℕ) → names.get (state.referents route) name ≡ Some measure → IsName name
  unfolding referents_from
  each_named route name measure there =
      elim (names.get definitions.routes route) as (λ o. names.get definitions.routes route ≡ o → names.get (on_numbered names.empty refs o) name ≡ Some measure → IsName name) [
        | None ↦ λ none is. absurd (none-some measure (sym (get-empty name_cmp name) ∙ is))
        | Some kept ↦ λ found is.
            let has = route_of route kept found in
            let referent = referent_of has.item name measure (subst (λ (r : catalog.RouteItem). names.get (refs r.number) name ≡ Some measure) (sym has.is) is) in
            referent.is.named
      ] refl there

  few_referents : (route : Name) → names.len (state.referents route) ≤ REFERENTS
  unfolding referents_from
  few_referents route = elim (names.get definitions.routes route) as (λ o. names.len (on_numbered names.empty refs o) ≤ REFERENTS) [
    | None ↦ omega (arith, len-empty name_cmp ℕ)
    | Some kept ↦ omega (arith, few_entries (listed kept.number), referents_meant.few kept.number)
  ]

  -- ---- the state

  few_views : names.len state.views ≤ VIEWS
  few_views =
      omega (
        arith,
        len-map_values (λ item. query_tree item.query) definitions.views,
        len-entries definitions.views,
        as_many IsViewOf catalogue.views (names.entries definitions.views) are.views,
        meant.definitions.views.few,
      )

  few_tables : names.len state.tables ≤ TABLES
  few_tables =
      omega (arith, ap names.len tables_are, len_by (λ (t : TableItem). t.name) full_table catalogue.tables meant.definitions.tables.in_order, meant.definitions.tables.few)

  pub lawful_with : MeantAreLawful → RowsFit → AreViewsMeant state → IsLawful state
  lawful_with make fit views =
      let base = make catalogue meant.definitions in
      record {
        routes = subst (λ (routes : Names RouteEnds). lawful.Each routes lawful.IsRoute) (sym routes_are) base.routes;
        referents_named = record { each = each_named };
        referents = each_referent;
        tables = each_table fit;
        views = views;
        alignments = subst (λ (alignments : Names (List Piece)). lawful.Each alignments (lawful.IsAlignment state.routes)) (sym are.alignments)
            (subst (λ (routes : Names RouteEnds). lawful.Each (stating.alignments_of catalogue.routes catalogue.alignments) (lawful.IsAlignment routes)) (sym routes_are) base.alignments);
        indexes = subst (λ (indexes : Names IndexedColumn). lawful.Each indexes (lawful.IsIndex state.tables)) (sym indexes_are)
            (λ name index there. index_on name index (base.indexes name index there));
        cursors = base.cursors;
        limits = record {
          routes = subst (λ (routes : Names RouteEnds). names.len routes ≤ ROUTES) (sym routes_are) base.limits.routes;
          referents = few_referents;
          tables = few_tables;
          indexes = subst (λ (indexes : Names IndexedColumn). names.len indexes ≤ INDEXES) (sym indexes_are) base.limits.indexes;
          views = few_views;
          alignments = subst (λ (alignments : Names (List Piece)). names.len alignments ≤ ALIGNMENTS) (sym are.alignments) base.limits.alignments;
          changes = omega (arith, holds.limit);
        };
      }

pub stands_lawful : MeantAreLawful → RowsFit → (pages : PageMap) (contents : Contents) (one : State) → StandsFor pages contents one → IsLawful one
stands_lawful make fit pages contents one stands =
    subst IsLawful (sym stands.is.is)
    (lawful_with pages contents stands.is.definitions stands.holds stands.meant stands.is.are make fit (subst AreViewsMeant stands.is.is stands.views))
