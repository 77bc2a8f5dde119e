-- On a route where no table has a fact no table has a span.
use Rattle.std.proofs.Common.{◌≡◌, ◌≤◌, ◌<◌, ◌+◌, ◌==◌, ◌||◌, ◌&&◌, ◌⊎◌, ◌∙◌, ℕ, suc, Bool, true, false, cond, not, Some, List, [], ◌∷◌, ap, filter, inl, inr, map, refl, subst, sym, arith}
use Rattle.std.specs.FinMap as names
use Rattle.std.specs.FinMap.{entries-from_sorted, find, get-entries, is_sorted}
use Rattle.std.specs.FinMap.Entries.{below_all}
use Rattle.std.specs.List.{AllByRecursion, list_any}
use Rattle.std.specs.Option.{option_map}
use Rattle.std.specs.Ordering.{eq_by_cmp, is_lt}
use Rattle.std.specs.Prelude.{Contains, if◌then◌else◌}
use Rattle.std.proofs.lemmas.Bool.{and_parts, eqb-true, false≢true}
use Rattle.std.proofs.lemmas.List.Elements.{All-contains, All-from_recursion}
use Rattle.std.proofs.lemmas.List.Folds.{list_any-append}
use Rattle.std.proofs.lemmas.Option.{none-some, same_Some}
use Rattle.rs_catalog.specs.Definitions as catalog
use Rattle.rs_catalog.specs.Definitions.{Definitions, facts_from, no_places, on_numbered, state_from, table_from, tables_from}
use Rattle.rs_catalog.specs.Referents.{referents_on}
use Rattle.rs_catalog.proofs.Names.{each_entry, get-map_values}
use Rattle.rs_catalog.proofs.StateLaws.{get-tables_from}
use Rattle.rs_catalog_meaning.specs.Meaning.{named_by}
use Rattle.rs_catalog_meaning.specs.Stating.{kind_of}
use Rattle.rs_catalog_pages.specs.Items.{RouteItem, TableItem}
use Rattle.rs_disk.specs.declared.disk.Disk as disk
use Rattle.rs_facts.specs.Fact.{Name, Names, Places, RowSet, contains, items, name_cmp, thousandths}
use Rattle.rs_facts.specs.Operators.{are_none, has_none}
use Rattle.rs_facts.specs.Query.{Table}
use Rattle.rs_facts.specs.Runs.{IsMaximalRun, LieWithin, Stretch}
use Rattle.rs_facts.specs.Spans.{places_of}
use Rattle.rs_file.specs.Contents.{Contents, HoldsAll, LiesTable, TableContents}
use Rattle.rs_facts.proofs.Counting.{thousandths-first, thousandths-split}
use Rattle.rs_facts.proofs.RowSets.{contains-items}
use Rattle.rs_facts.proofs.Rows.{same_row}
use Rattle.rs_facts.proofs.SpanLaws.{Covers-from_contains}
use Rattle.rs_file_meaning.specs.Meant.{IsMeant, IsTableMeant}
use Rattle.rs_file_meaning.specs.Seen.{born_by, events_of, events_with, is_born, routes_at, span_of_route, spans_seen}
use Rattle.rs_file_meaning.specs.States.{AreDefinitionsAt, named_route, named_table, routes_named}
use Rattle.rs_machine.specs.State.{State, no_cursors}
use Rattle.rs_machine.specs.Step.{has_fact_on, some_table}
use Rattle.rs_pager.specs.Maps.{committed}
use Rattle.rs_pages.specs.PageMap.{PageMap}
use Rattle.rs_file_meaning.proofs.Named.{HasItem, first_there, item_of, later_there, to_T}
use Rattle.rs_file_meaning.proofs.Picked.{born_all, each_kept, kept_passes, kept_there, same_numbered, shown_there, source_of, table_of}
use Rattle.rs_store.specs.Kept.{StandsIn, StoreState}
use Rattle.rs_store.specs.Routing.{HasNoFactOn}
use Rattle.rs_value.specs.Row.{Row}
use Rattle.rs_value.specs.declared.column.Kind.{Kind}
use Rattle.rs_value.specs.declared.column.Kind.TheVariants.{Line, Point}
use Rattle.rs_versioned.specs.Events.{Event, facts_at, is_on, sees_event, span_of, spans_at}
use Rattle.rs_versioned.specs.Meant.{AreEventsMeant, HasRoute, IsSpanOf}
use Rattle.rs_versioned.specs.declared.route_span.RouteSpan.{RouteSpan}

-- ---- tests

any_first : (a b : Bool) → a ≡ true → (a || b) ≡ true
any_first true b e = refl
any_first false b e = absurd (false≢true e)

any_more : (a b : Bool) → b ≡ true → (a || b) ≡ true
any_more true b e = refl
any_more false b e = e

module _ {X : Type 0} (test : X → Bool) where
  finds_any : (entries : List (Name × X)) (name : Name) (x : X) → find name_cmp name entries ≡ Some x → test x ≡ true → list_any (λ e. test e.1) entries ≡ true
  finds_any [] name x there passes = absurd (none-some x there)
  finds_any (e ∷ es) name x there passes =
      elim (eq_by_cmp name_cmp name e.0) as (λ b. cond b (Some e.1) (find name_cmp name es) ≡ Some x → list_any (λ e. test e.1) (e ∷ es) ≡ true) [
        | true ↦ λ f. any_first (test e.1) (list_any (λ e. test e.1) es) (ap test (same_Some e.1 x f) ∙ passes)
        | false ↦ λ f. any_more (test e.1) (list_any (λ e. test e.1) es) (finds_any es name x f passes)
      ] there

  some_entry : (values : Names X) (name : Name) (x : X) → names.get values name ≡ Some x → test x ≡ true → list_any (λ e. test e.1) (names.entries values) ≡ true
  some_entry values name x there passes = finds_any (names.entries values) name x (sym (get-entries values name) ∙ there) passes

-- ---- a span's first thousandth has a fact

has_none-some : (rows : RowSet) (row : Row) → contains rows row ≡ true → has_none rows ≡ false
has_none-some rows row holding = elim (items rows) as (λ list. items rows ≡ list → are_none list ≡ false) [
  | [] ↦ λ e. absurd (false≢true (sym (contains-items rows row ∙ ap (list_any (λ other. same_row other row)) e) ∙ holding))
  | first ∷ more ↦ λ e. refl
] refl

some_thousandth : (test : ℕ → Bool) (from to k : ℕ) → from ≤ k → k < to → test k ≡ true → list_any test (thousandths from to) ≡ true
some_thousandth test from to k a b passes =
    ap (list_any test) (thousandths-split from k to a (omega arith)) ∙ list_any-append test (thousandths from k) (thousandths k to)
    ∙ any_more (list_any test (thousandths from k)) (list_any test (thousandths k to))
    (ap (list_any test) (thousandths-first k to b) ∙ any_first (test k) (list_any test (thousandths (suc k) to)) passes)

-- where a run begins, its row holds
run_holds : (kind : Kind) (places : Places) (run : Stretch) → IsMaximalRun kind places run → contains (places run.lo) run.row ≡ true
run_holds Line places run is = is.holds run.lo (omega arith) is.some
run_holds Point places run is = is.holds

first_fact : (table : Table) (name : Name) (from to : ℕ) (places : Places) → table.facts name ≡ places → (kind : Kind) (span : Stretch) → IsMaximalRun kind places span → LieWithin from to places
    → list_any (λ k. not (has_none (table.facts name k))) (thousandths from to) ≡ true
first_fact table name from to places facts kind span run lie =
    let held = run_holds kind places span run in
    let ends = lie span.lo span.row held in
    some_thousandth (λ k. not (has_none (table.facts name k))) from to span.lo ends.0 ends.1
    (ap (λ (p : Places). not (has_none (p span.lo))) facts ∙ ap not (has_none-some (places span.lo) span.row held))

-- ---- tables in contents

-- names rise whatever stands under them
module _ {X Y : Type 0} (name_of : X → Name) (value : X → Y) where
  below_values : (name : Name) (xs : List X) → below_all name_cmp name (map (λ x. (name_of x, value x)) xs) ≡ below_all name_cmp name (named_by name_of xs)
  below_values name [] = refl
  below_values name (x ∷ xs) = ap (λ b. is_lt (name_cmp name (name_of x)) && b) (below_values name xs)

  pub sorted_values : (xs : List X) → is_sorted name_cmp (map (λ x. (name_of x, value x)) xs) ≡ is_sorted name_cmp (named_by name_of xs)
  sorted_values [] = refl
  sorted_values (x ∷ xs) =
      ap (λ b. b && is_sorted name_cmp (map (λ x. (name_of x, value x)) xs)) (below_values (name_of x) xs)
      ∙ ap (λ b. below_all name_cmp (name_of x) (named_by name_of xs) && b) (sorted_values xs)

-- the thousandth is on the route, whose end is one of it
abbrev pub IsOn : ℕ → RouteSpan → Type 0
IsOn k route = (route.start ≤ k) × (k < route.finish + 1)

on_span : (kind : Kind) (span : Stretch) (route : RouteSpan) (k : ℕ) → IsSpanOf kind span route → span.lo ≤ k → k < span.hi → IsOn k route
on_span Line span route k lies from below = (omega (arith, lies.0, from), omega (arith, lies.1, below))
on_span Point span route k lies from below = (omega (arith, lies.0, from), omega (arith, lies.1, below))

-- a row that holds on a route holds on one of the routes
pub facts_lie : (routes : List RouteSpan) (kind : Kind) (version : ℕ) (events : List Event) → AreEventsMeant routes kind version events
    → (number k : ℕ) (row : Row) → contains (facts_at version number events k) row ≡ true → HasRoute routes number (IsOn k)
facts_lie routes kind version events meant number k row held =
    let covers = Covers-from_contains (map span_of (filter (is_on version number) events)) row k held in
    let from = source_of span_of (filter (is_on version number) events) covers.span covers.among in
    let event = from.source in
    let among = kept_there (is_on version number) events event from.there in
    let parts = and_parts (event.route == number) (sees_event version event) (kept_passes (is_on version number) events event from.there) in
    let lies = each_kept (sees_event version) (λ one. HasRoute routes one.route (IsSpanOf kind (span_of one))) events event meant.lie among parts.1 in
    let low : event.lo ≤ k = subst (λ (span : Stretch). span.lo ≤ k) (sym from.is) covers.is.from in
    let high : k < event.hi = subst (λ (span : Stretch). k < span.hi) (sym from.is) covers.is.below in
    record {
      route = lies.route;
      there = lies.there;
      numbered = lies.numbered ∙ eqb-true event.route number parts.0;
      is_so = on_span kind (span_of event) lies.route k lies.is_so low high;
    }

-- a number has no events, or is that of a table
numbered_or_none : (listed : List TableItem) (tables : List TableContents) (number : ℕ) → (events_with listed tables number ≡ []) ⊎ ((item : TableItem) × Contains listed item × (item.number ≡ number))
numbered_or_none [] tables number = inl refl
numbered_or_none (item ∷ listed) [] number = inl refl
numbered_or_none (item ∷ listed) (table ∷ tables) number =
    elim (item.number == number) as (λ b. (item.number == number) ≡ b
    → ((if b then table.events else events_with listed tables number) ≡ []) ⊎ ((one : TableItem) × Contains (item ∷ listed) one × (one.number ≡ number))) [
      | true ↦ λ same. inr (item, first_there item listed, eqb-true item.number number same)
      | false ↦ λ other. elim (numbered_or_none listed tables number) [
        | inl no_events ↦ inl no_events
        | inr one ↦ inr (one.0, later_there item one.0 listed one.1, one.2)
      ]
    ] refl

module _ (pages : PageMap) (contents : Contents) (definitions : Definitions) (oldest : ℕ) (holds : HoldsAll pages contents) (meant : IsMeant oldest contents)
    (are : AreDefinitionsAt contents.directory.accepted contents.definitions definitions) (live : oldest ≤ contents.directory.accepted) where
  abbrev version : ℕ
  version = contents.directory.accepted

  abbrev Meant : TableItem → TableContents → Type 0
  Meant = IsTableMeant contents.definitions.routes version

  -- the events of a table that is listed are meant
  listed_meant : (item : TableItem) → Contains contents.definitions.tables item → AreEventsMeant (routes_at version contents.definitions.routes) (kind_of item.kind) version (events_of contents item.number)
  listed_meant item there =
      let records = meant.records version live (omega arith) in
      let table = table_of Meant Meant (LiesTable pages version) item contents.definitions.tables contents.tables there records.tables records.tables holds.parts.tables
      (holds.said.numbered.given.tables_once item.number) in
      subst (λ (events : List Event). AreEventsMeant (routes_at version contents.definitions.routes) (kind_of item.kind) version events) (sym table.events) table.one

  -- a table that is listed is there under its name
  listed_there : (item : TableItem) → Contains contents.definitions.tables item → names.get definitions.tables item.name ≡ Some (named_table item).1
  listed_there item there =
      let entries : names.entries definitions.tables ≡ map named_table contents.definitions.tables =
      ap names.entries are.tables ∙ entries-from_sorted name_cmp (map named_table contents.definitions.tables)
      (to_T (is_sorted name_cmp (map named_table contents.definitions.tables))
      (sorted_values (λ (t : TableItem). t.name) (λ t. (named_table t).1) contents.definitions.tables ∙ meant.definitions.tables.in_order)) in
      All-contains (λ (e : Name × catalog.TableItem). names.get definitions.tables e.0 ≡ Some e.1) (names.entries definitions.tables) (named_table item)
      (All-from_recursion (λ (e : Name × catalog.TableItem). names.get definitions.tables e.0 ≡ Some e.1) (names.entries definitions.tables) (each_entry definitions.tables))
      (subst (λ (es : List (Name × catalog.TableItem)). Contains es (named_table item)) (sym entries) (shown_there named_table contents.definitions.tables item there))

  routes_kept : definitions.routes ≡ routes_named contents.definitions.routes
  routes_kept = are.routes ∙ ap routes_named (born_all contents.directory.accepted contents.definitions.routes holds.routes)

  -- the route of the catalogue that has the number is the route of the file
  pub route_of : (name : Name) (item : catalog.RouteItem) → names.get definitions.routes name ≡ Some item
      → HasItem (λ (route : RouteItem). route.name) (λ route. (named_route route).1) contents.definitions.routes name item
  route_of name item there =
      item_of (λ (route : RouteItem). route.name) (λ route. (named_route route).1) contents.definitions.routes name item meant.definitions.routes.in_order
      (sym (ap (λ (routes : Names catalog.RouteItem). names.get routes name) routes_kept) ∙ there)

  -- in the version that was accepted last, what holds on a route of the catalogue lies between its ends
  pub lie_on : (kind : Kind) (events : List Event) → AreEventsMeant (routes_at contents.directory.accepted contents.definitions.routes) kind contents.directory.accepted events
      → (name : Name) (item : catalog.RouteItem) → names.get definitions.routes name ≡ Some item → LieWithin item.ends.start (item.ends.finish + 1) (facts_at contents.directory.accepted item.number events)
  lie_on kind events are_meant name item there k row held =
      let has = route_of name item there in
      let on = facts_lie (routes_at version contents.definitions.routes) kind version events are_meant item.number k row held in
      let from = source_of span_of_route (born_by version contents.definitions.routes) on.route on.there in
      let among = kept_there (is_born version) contents.definitions.routes from.source from.there in
      let number : from.source.number ≡ has.item.number =
      ap (λ (span : RouteSpan). span.number) from.is ∙ on.numbered ∙ sym (ap (λ (i : catalog.RouteItem). i.number) has.is) in
      let one : from.source ≡ has.item =
      same_numbered (λ (r : RouteItem). r.number) contents.definitions.routes from.source has.item among has.there number (meant.definitions.routes.numbers_once from.source.number) in
      subst (λ (i : catalog.RouteItem). (i.ends.start ≤ k) × (k < i.ends.finish + 1)) has.is
      (subst (λ (r : RouteItem). IsOn k (span_of_route r)) one (subst (IsOn k) (sym from.is) on.is_so))

-- what a table has on a route
facts_there : (definitions : Definitions) (spans : ℕ → ℕ → List Stretch) (item : catalog.TableItem) (route : Name) (on : catalog.RouteItem) → names.get definitions.routes route ≡ Some on
    → (table_from definitions.routes spans item).facts route ≡ places_of (spans item.number on.number)
unfolding facts_from
facts_there definitions spans item route on at = ap (on_numbered no_places (λ (number : ℕ). places_of (spans item.number number))) at

module _ {D : Type 0} (d : disk.Ghosts D) where
  -- what the law says of the state of a store
  abbrev pub StateIs : Type 0
  StateIs = (oldest : ℕ) (store : StoreState D) (state : State) (stands : StandsIn d oldest store state)
      → state ≡ state_from store.catalog (λ (route : ℕ). referents_on store.referents route) (spans_seen stands.contents store.file.accepted)
      (record { changes = store.file.accepted; cursors = no_cursors })

  module _ (state_is : StateIs) (oldest : ℕ) (store : StoreState D) (state : State) (stands : StandsIn d oldest store state)
      (route : Name) (on : catalog.RouteItem) (at : names.get store.catalog.routes route ≡ Some on) where
    abbrev accepted : ℕ
    accepted = stands.contents.directory.accepted

    abbrev spans : ℕ → ℕ → List Stretch
    spans = spans_seen stands.contents store.file.accepted

    a_fact : (item : TableItem) → Contains stands.contents.definitions.tables item → (span : Stretch)
        → IsMaximalRun (kind_of item.kind) (facts_at accepted on.number (events_of stands.contents item.number)) span → some_table state (has_fact_on route on.ends) ≡ true
    a_fact item listed span run =
        let level : accepted ≡ store.file.accepted = stands.keeps.opened.accepted in
        let pages = committed d store.pager in
        let meant = listed_meant pages stands.contents store.catalog oldest stands.keeps.holds stands.meant stands.keeps.memory.catalog stands.live item listed in
        let there = listed_there pages stands.contents store.catalog oldest stands.keeps.holds stands.meant stands.keeps.memory.catalog stands.live item listed in
        let lie = lie_on pages stands.contents store.catalog oldest stands.keeps.holds stands.meant stands.keeps.memory.catalog stands.live (kind_of item.kind) (events_of stands.contents item.number) meant
        route on at in
        let table : Table = table_from store.catalog.routes spans (named_table item).1 in
        let facts : table.facts route ≡ facts_at accepted on.number (events_of stands.contents item.number) =
        facts_there store.catalog spans (named_table item).1 route on at ∙ ap (λ (v : ℕ). places_of (spans_seen stands.contents v item.number on.number)) (sym level) in
        ap (λ (s : State). some_table s (has_fact_on route on.ends)) (state_is oldest store state stands)
        ∙ some_entry (has_fact_on route on.ends) (tables_from store.catalog spans) item.name table
        (get-tables_from store.catalog spans item.name ∙ ap (option_map (table_from store.catalog.routes spans)) there)
        (first_fact table route on.ends.start (on.ends.finish + 1) (facts_at accepted on.number (events_of stands.contents item.number)) facts (kind_of item.kind) span run lie)

    module _ (off : some_table state (has_fact_on route on.ends) ≡ false) where
      none_of : (item : TableItem) → Contains stands.contents.definitions.tables item → spans_seen stands.contents accepted item.number on.number ≡ []
      none_of item listed =
          let meant = listed_meant (committed d store.pager) stands.contents store.catalog oldest stands.keeps.holds stands.meant stands.keeps.memory.catalog stands.live item listed in
          let runs = (meant.runs on.number).maximal in
          let places = facts_at accepted on.number (events_of stands.contents item.number) in
          elim (spans_seen stands.contents accepted item.number on.number) as (λ s. spans_seen stands.contents accepted item.number on.number ≡ s → spans_seen stands.contents accepted item.number on.number ≡ []) [
            | [] ↦ λ e. e
            | span ∷ more ↦ λ e.
                absurd (false≢true (sym off ∙ a_fact item listed span (subst (λ (s : List Stretch). AllByRecursion (IsMaximalRun (kind_of item.kind) places) s) e runs).0))
          ] refl

      none_at : (table : ℕ) → spans_seen stands.contents accepted table on.number ≡ []
      none_at table = elim (numbered_or_none stands.contents.definitions.tables stands.contents.tables table) [
        | inl no_events ↦ ap (spans_at accepted on.number) no_events
        | inr one ↦ subst (λ (n : ℕ). spans_seen stands.contents accepted n on.number ≡ []) one.2 (none_of one.0 one.1)
      ]

    -- where no table has a fact on the route none has a span there
    pub no_spans : HasNoFactOn route state → (table : ℕ) → spans_seen stands.contents accepted table on.number ≡ []
    no_spans nothing = none_at (nothing on.ends
        (ap (λ (s : State). names.get s.routes route) (state_is oldest store state stands)
        ∙ get-map_values (λ (item : catalog.RouteItem). item.ends) store.catalog.routes route ∙ ap (option_map (λ (item : catalog.RouteItem). item.ends)) at))
