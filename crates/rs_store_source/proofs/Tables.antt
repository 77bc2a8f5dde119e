-- What a live version sees of a table of the catalogue, and where it lies.
use Rattle.std.proofs.Common.{◌≡◌, ◌≤◌, ◌<◌, ◌+◌, ◌&&◌, ◌==◌, ◌∙◌, ℕ, true, Some, List, [], ◌∷◌, ap, filter, map, refl, subst, sym, arith}
use Rattle.std.specs.FinMap as names
use Rattle.std.specs.FinMap.{entries-from_sorted, is_sorted}
use Rattle.std.specs.FinMap.Entries.{below_all}
use Rattle.std.specs.Ordering.{is_lt}
use Rattle.std.specs.Prelude.{Contains}
use Rattle.std.proofs.lemmas.Bool.{and_parts, eqb-true}
use Rattle.std.proofs.lemmas.List.Elements.{All-contains, All-from_recursion}
use Rattle.rs_catalog.specs.Definitions as catalog
use Rattle.rs_catalog.specs.Definitions.{Definitions}
use Rattle.rs_catalog_meaning.specs.Meaning.{ends_of, named_by}
use Rattle.rs_catalog_meaning.specs.Stating.{kind_of}
use Rattle.rs_cell_versions.specs.Versioned.{Standing}
use Rattle.rs_catalog_pages.specs.Items.{RouteItem, TableItem}
use Rattle.rs_facts.specs.Fact.{Name, Names, contains, name_cmp}
use Rattle.rs_facts.specs.Runs.{LieWithin, Stretch}
use Rattle.rs_file.specs.Contents.{Contents, HoldsAll, LiesTable, TableContents}
use Rattle.rs_facts.proofs.SpanLaws.{Covers-from_contains}
use Rattle.rs_file_meaning.specs.Meant.{IsMeant, IsTableMeant}
use Rattle.rs_file_meaning.specs.Seen.{born_by, events_of, is_born, routes_at, span_of_route}
use Rattle.rs_file_meaning.specs.States.{AreDefinitionsAt, named_route, named_table, routes_named}
use Rattle.rs_machine.specs.Lawful.{IsRoute}
use Rattle.rs_measure.specs.declared.measure.TheConstants.{GREATEST_MEASURE}
use Rattle.rs_pages.specs.PageMap.{PageMap}
use Rattle.rs_file_meaning.proofs.Named.{HasItem, item_of, to_T}
use Rattle.rs_file_meaning.proofs.Picked.{HasTable, born_all, each_kept, kept_passes, kept_there, same_numbered, source_of, table_of}
use Rattle.rs_value.specs.Row.{Row}
use Rattle.rs_value.specs.declared.column.ColumnType.{ColumnType}
use Rattle.rs_value.specs.declared.column.Kind.{Kind}
use Rattle.rs_value.specs.declared.column.Kind.TheVariants.{Line, Point}
use Rattle.rs_versioned.specs.Events.{Event, facts_at, is_on, kept_events, sees_event, span_of}
use Rattle.rs_versioned.specs.Records.{HoldsRecords}
use Rattle.rs_versioned.specs.Meant.{AreEventsMeant, HasRoute, IsSpanOf}
use Rattle.rs_versioned.specs.declared.route_span.RouteSpan.{RouteSpan}

-- the thousandth is on the route, whose end is one of it
abbrev pub IsOn : ℕ → RouteSpan → Type 0
IsOn k route = (route.start ≤ k) × (k < route.finish + 1)

on_span : (kind : Kind) (span : Stretch) (route : RouteSpan) (k : ℕ) → IsSpanOf kind span route → span.lo ≤ k → k < span.hi → IsOn k route
on_span Line span route k lies from below = (omega (arith, lies.0, from), omega (arith, lies.1, below))
on_span Point span route k lies from below = (omega (arith, lies.0, from), omega (arith, lies.1, below))

-- a row that holds on a route holds on one of the routes
pub facts_lie : (routes : List RouteSpan) (kind : Kind) (version : ℕ) (events : List Event) → AreEventsMeant routes kind version events
    → (number k : ℕ) (row : Row) → contains (facts_at version number events k) row ≡ true → HasRoute routes number (IsOn k)
facts_lie routes kind version events meant number k row held =
    let covers = Covers-from_contains (map span_of (filter (is_on version number) events)) row k held in
    let from = source_of span_of (filter (is_on version number) events) covers.span covers.among in
    let event = from.source in
    let among = kept_there (is_on version number) events event from.there in
    let parts = and_parts (event.route == number) (sees_event version event) (kept_passes (is_on version number) events event from.there) in
    let lies = each_kept (sees_event version) (λ one. HasRoute routes one.route (IsSpanOf kind (span_of one))) events event meant.lie among parts.1 in
    let low : event.lo ≤ k = subst (λ (span : Stretch). span.lo ≤ k) (sym from.is) covers.is.from in
    let high : k < event.hi = subst (λ (span : Stretch). k < span.hi) (sym from.is) covers.is.below in
    record {
      route = lies.route;
      there = lies.there;
      numbered = lies.numbered ∙ eqb-true event.route number parts.0;
      is_so = on_span kind (span_of event) lies.route k lies.is_so low high;
    }

-- names rise whatever stands under them
below_values : {Y : Type 0} (value : RouteItem → Y) (name : Name) (xs : List RouteItem)
    → below_all name_cmp name (map (λ (r : RouteItem). (r.name, value r)) xs) ≡ below_all name_cmp name (named_by (λ (r : RouteItem). r.name) xs)
below_values value name [] = refl
below_values value name (x ∷ xs) = ap (λ b. is_lt (name_cmp name x.name) && b) (below_values value name xs)

sorted_values : {Y : Type 0} (value : RouteItem → Y) (xs : List RouteItem)
    → is_sorted name_cmp (map (λ (r : RouteItem). (r.name, value r)) xs) ≡ is_sorted name_cmp (named_by (λ (r : RouteItem). r.name) xs)
sorted_values value [] = refl
sorted_values value (x ∷ xs) =
    ap (λ b. b && is_sorted name_cmp (map (λ (r : RouteItem). (r.name, value r)) xs)) (below_values value x.name xs)
    ∙ ap (λ b. below_all name_cmp x.name (named_by (λ (r : RouteItem). r.name) xs) && b) (sorted_values value xs)

-- the events of a table as they lie in pages
pub record HoldsEvents (pages : PageMap) (accepted : ℕ) (events : List Event) : Type 0 where
  pub types : List ColumnType
  pub standing : Standing
  pub used : ℕ → ℕ
  pub holds : HoldsRecords (kept_events types) pages standing accepted events used

module _ (pages : PageMap) (contents : Contents) (definitions : Definitions) (oldest : ℕ) (holds : HoldsAll pages contents) (meant : IsMeant oldest contents)
    (are : AreDefinitionsAt contents.directory.accepted contents.definitions definitions) where
  abbrev Meant : ℕ → TableItem → TableContents → Type 0
  Meant version = IsTableMeant contents.definitions.routes version

  table_for : (version : ℕ) → oldest ≤ version → version ≤ contents.directory.accepted → (item : TableItem) → Contains contents.definitions.tables item
      → HasTable (Meant version) (Meant version) (LiesTable pages contents.directory.accepted) contents.definitions.tables contents.tables item
  table_for version low high item there =
      let records = meant.records version low high in
      table_of (Meant version) (Meant version) (LiesTable pages contents.directory.accepted) item contents.definitions.tables contents.tables there records.tables records.tables holds.parts.tables
      (holds.said.numbered.given.tables_once item.number)

  -- a live version sees just the runs of the table's facts, on its routes
  pub events_meant : (name : Name) (item : catalog.TableItem) → names.get definitions.tables name ≡ Some item → (version : ℕ) → oldest ≤ version → version ≤ contents.directory.accepted
      → AreEventsMeant (routes_at version contents.definitions.routes) item.kind version (events_of contents item.number)
  events_meant name item there version low high =
      let has = item_of (λ (t : TableItem). t.name) (λ t. (named_table t).1) contents.definitions.tables name item meant.definitions.tables.in_order
      (sym (ap (λ (tables : Names catalog.TableItem). names.get tables name) are.tables) ∙ there) in
      let table = table_for version low high has.item has.there in
      subst (λ (i : catalog.TableItem). AreEventsMeant (routes_at version contents.definitions.routes) i.kind version (events_of contents i.number)) has.is
      (subst (λ (events : List Event). AreEventsMeant (routes_at version contents.definitions.routes) (kind_of has.item.kind) version events) (sym table.events) table.one)

  -- its events lie in pages
  pub events_lie : (name : Name) (item : catalog.TableItem) → names.get definitions.tables name ≡ Some item → oldest ≤ contents.directory.accepted
      → HoldsEvents pages contents.directory.accepted (events_of contents item.number)
  events_lie name item there low =
      let has = item_of (λ (t : TableItem). t.name) (λ t. (named_table t).1) contents.definitions.tables name item meant.definitions.tables.in_order
      (sym (ap (λ (tables : Names catalog.TableItem). names.get tables name) are.tables) ∙ there) in
      let table = table_for contents.directory.accepted low (omega arith) has.item has.there in
      subst (λ (i : catalog.TableItem). HoldsEvents pages contents.directory.accepted (events_of contents i.number)) has.is
      (subst (HoldsEvents pages contents.directory.accepted) (sym table.events)
      (record { types = table.table.types; standing = table.table.standing; used = table.table.used; holds = table.third.records }))

  -- ---- routes

  is_route : (version number : ℕ) (IsSo : RouteSpan → Type 0) (on : HasRoute (routes_at version contents.definitions.routes) number IsSo) → on.route.finish ≤ GREATEST_MEASURE
  is_route version number IsSo on =
      let from = source_of span_of_route (born_by version contents.definitions.routes) on.route on.there in
      let among = kept_there (is_born version) contents.definitions.routes from.source from.there in
      let is = All-contains (λ (r : RouteItem). IsRoute r.name (ends_of r)) contents.definitions.routes from.source
      (All-from_recursion (λ (r : RouteItem). IsRoute r.name (ends_of r)) contents.definitions.routes meant.definitions.routes.each) among in
      subst (λ (r : RouteSpan). r.finish ≤ GREATEST_MEASURE) from.is is.end_is_measure

  -- what holds anywhere holds below a bound
  pub all_lie : (version : ℕ) (kind : Kind) (events : List Event) → AreEventsMeant (routes_at version contents.definitions.routes) kind version events
      → (number : ℕ) → LieWithin 0 (GREATEST_MEASURE + 1) (facts_at version number events)
  all_lie version kind events are_meant number k row held =
      let on = facts_lie (routes_at version contents.definitions.routes) kind version events are_meant number k row held in
      (omega arith, omega (arith, on.is_so.1, is_route version number (IsOn k) on))

  routes_kept : definitions.routes ≡ routes_named contents.definitions.routes
  routes_kept = are.routes ∙ ap routes_named (born_all contents.directory.accepted contents.definitions.routes holds.routes)

  -- the routes of the catalogue are those of the file
  pub routes_listed : names.entries definitions.routes ≡ map named_route contents.definitions.routes
  routes_listed =
      ap names.entries routes_kept
      ∙ entries-from_sorted name_cmp (map named_route contents.definitions.routes)
      (to_T (is_sorted name_cmp (map named_route contents.definitions.routes)) (sorted_values (λ (r : RouteItem). (named_route r).1) contents.definitions.routes ∙ meant.definitions.routes.in_order))

  -- the route of the catalogue that has the number is the route of the file
  pub route_of : (name : Name) (item : catalog.RouteItem) → names.get definitions.routes name ≡ Some item
      → HasItem (λ (route : RouteItem). route.name) (λ route. (named_route route).1) contents.definitions.routes name item
  route_of name item there =
      item_of (λ (route : RouteItem). route.name) (λ route. (named_route route).1) contents.definitions.routes name item meant.definitions.routes.in_order
      (sym (ap (λ (routes : Names catalog.RouteItem). names.get routes name) routes_kept) ∙ there)

  -- in the version that was accepted last, what holds on a route of the catalogue lies between its ends
  pub lie_on : (kind : Kind) (events : List Event) → AreEventsMeant (routes_at contents.directory.accepted contents.definitions.routes) kind contents.directory.accepted events
      → (name : Name) (item : catalog.RouteItem) → names.get definitions.routes name ≡ Some item → LieWithin item.ends.start (item.ends.finish + 1) (facts_at contents.directory.accepted item.number events)
  lie_on kind events are_meant name item there k row held =
      let version = contents.directory.accepted in
      let has = route_of name item there in
      let on = facts_lie (routes_at version contents.definitions.routes) kind version events are_meant item.number k row held in
      let from = source_of span_of_route (born_by version contents.definitions.routes) on.route on.there in
      let among = kept_there (is_born version) contents.definitions.routes from.source from.there in
      let number : from.source.number ≡ has.item.number =
      ap (λ (span : RouteSpan). span.number) from.is ∙ on.numbered ∙ sym (ap (λ (i : catalog.RouteItem). i.number) has.is) in
      let one : from.source ≡ has.item =
      same_numbered (λ (r : RouteItem). r.number) contents.definitions.routes from.source has.item among has.there number (meant.definitions.routes.numbers_once from.source.number) in
      subst (λ (i : catalog.RouteItem). (i.ends.start ≤ k) × (k < i.ends.finish + 1)) has.is
      (subst (λ (r : RouteItem). IsOn k (span_of_route r)) one (subst (IsOn k) (sym from.is) on.is_so))
