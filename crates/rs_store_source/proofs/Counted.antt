-- As many records of a table live as it has maximal runs on all routes.
use Rattle.std.proofs.Common.{◌≡◌, ◌≤◌, ◌<◌, ◌+◌, ◌&&◌, ◌==◌, ◌∙◌, ℕ, zero, suc, Bool, true, false, cond, Some, List, [], ◌∷◌, ap, filter, get_or, length, map, refl, subst, sum_by, sym, arith}
use Rattle.std.specs.FinMap as names
use Rattle.std.specs.List.{AllByRecursion, AllZip, count_by}
use Rattle.std.specs.Prelude.{Contains}
use Rattle.std.proofs.lemmas.Bool.Decides.{nat_tests}
use Rattle.std.proofs.lemmas.List.Sums.{length-filter, sum_by-cons}
use Rattle.rs_catalog.specs.Definitions as catalog
use Rattle.rs_catalog.specs.Definitions.{Definitions, Rest, facts_from, on_numbered, no_places, state_from, table_from, world_from}
use Rattle.rs_catalog.specs.Referents.{referents_on}
use Rattle.rs_catalog.proofs.Names.{each_entry, entries-map_values}
use Rattle.rs_cell_versions.specs.declared.cell.TheConstants.{LIVING}
use Rattle.rs_catalog_pages.specs.Items.{CatalogueItems, RouteItem}
use Rattle.rs_catalog_pages.specs.Said.{said_table}
use Rattle.rs_catalog_pages.specs.declared.items.StoredTable.{StoredTable}
use Rattle.rs_catalog_pages.proofs.Counting.{times-cons, times-none}
use Rattle.rs_facts.specs.Fact.{Name, Names, Places}
use Rattle.rs_file.specs.Contents.{Contents, HoldsAll, LiesTable, TableContents}
use Rattle.rs_file.specs.Opening.{IsOpened}
use Rattle.rs_file.specs.declared.opened.OpenedTable.{OpenedTable}
use Rattle.rs_disk.specs.declared.disk.Disk as disk
use Rattle.rs_facts.specs.Query.{RouteEnds, Table}
use Rattle.rs_facts.specs.Runs.{LieWithin, Stretch}
use Rattle.rs_facts.specs.Spans.{AreAllRunsOf}
use Rattle.rs_page_owners.specs.Counts.{one_at, times}
use Rattle.rs_page_owners.proofs.Moving.{one_at-same}
use Rattle.rs_pages.specs.PageMap.{PageMap}
use Rattle.rs_machine.specs.State.{State, no_cursors, world_of}
use Rattle.rs_pager.specs.Maps.{committed}
use Rattle.rs_planning.specs.Basis.{runs_counted}
use Rattle.rs_planning.specs.Laws.{AreItsRuns}
use Rattle.rs_file_meaning.specs.Meant.{IsMeant}
use Rattle.rs_file_meaning.specs.Seen.{born_by, events_of, events_with, is_born, routes_at, span_of_route, spans_seen}
use Rattle.rs_file_meaning.specs.States.{AreDefinitionsAt, named_route}
use Rattle.rs_planning.proofs.RecordCounts.{records-are_runs}
use Rattle.rs_file_meaning.proofs.Picked.{kept_there, source_of}
use Rattle.rs_store.specs.Kept.{StandsIn, StoreState}
use Rattle.rs_store.specs.Reading.{lives, living_of, living_with}
use Rattle.rs_versioned.proofs.KeptRecords.{events_are_kept}
use Rattle.rs_versioned.proofs.Present.{held_living, held_present}
use Rattle.rs_versioned.specs.Events.{Event, facts_at, is_on, kept_events, sees_event, span_of, spans_at}
use Rattle.rs_versioned.specs.Meant.{AreEventsMeant, HasRoute, IsSpanOf}
use Rattle.rs_versioned.specs.declared.route_span.RouteSpan.{RouteSpan}
use Rattle.rs_store_source.proofs.Tables.{events_lie, events_meant, lie_on, routes_listed}
use Rattle.rs_store_source.proofs.States.{StateIs, table_at}

-- ---- what is open counts the living

pub living_counted : (map_of : PageMap) (accepted number : ℕ) (items : List StoredTable) (opened : List OpenedTable) (tables : List TableContents) → AllZip IsOpened opened tables
    → AllByRecursion (LiesTable map_of accepted) tables → living_with items opened number ≡ count_by lives (events_with (map said_table items) tables number)
living_counted map_of accepted number [] opened tables are lie = refl
living_counted map_of accepted number (i ∷ items) [] [] are lie = refl
living_counted map_of accepted number (i ∷ items) [] (t ∷ tables) are lie = absurd are
living_counted map_of accepted number (i ∷ items) (o ∷ opened) [] are lie = absurd are
living_counted map_of accepted number (i ∷ items) (o ∷ opened) (t ∷ tables) are lie =
    let here : o.records.working.living ≡ count_by lives t.events =
    ap (λ standing. standing.living) are.0.stands
    ∙ sym (held_living (kept_events t.types) (events_are_kept t.types) map_of t.standing accepted t.events t.used lie.0.records) in
    let later = living_counted map_of accepted number items opened tables are.1 lie.1 in
    elim (i.number == number) as (λ b. cond b o.records.working.living (living_with items opened number) ≡ count_by lives (cond b t.events (events_with (map said_table items) tables number))) [
      | true ↦ here
      | false ↦ later
    ]

-- ---- each event that is seen is on one route

both_ways : (a b : ℕ) → (a == b) ≡ (b == a)
both_ways a b = grind (arith, nat_tests)

seen_once : (version number : ℕ) (e : Event) (es : List Event) → length (spans_at version number (e ∷ es)) ≡ cond (e.route == number && sees_event version e) 1 0 + length (spans_at version number es)
seen_once version number e es = elim (e.route == number && sees_event version e) as (λ b. length (map span_of (cond b (e ∷ filter (is_on version number) es) (filter (is_on version number) es))) ≡ cond b 1 0 + length (map span_of (filter (is_on version number) es))) [
  | true ↦ omega arith
  | false ↦ omega arith
]

module _ {X : Type 0} (number_of : X → ℕ) where
  sum_added : (f g h : X → ℕ) (xs : List X) → ((x : X) → f x ≡ g x + h x) → sum_by f xs ≡ sum_by g xs + sum_by h xs
  sum_added f g h [] same = omega arith
  sum_added f g h (x ∷ xs) same = omega (arith, sum_by-cons f x xs, sum_by-cons g x xs, sum_by-cons h x xs, same x, sum_added f g h xs same)

  sum_none : (f : X → ℕ) (xs : List X) → ((x : X) → f x ≡ 0) → sum_by f xs ≡ 0
  sum_none f [] none = refl
  sum_none f (x ∷ xs) none = omega (arith, sum_by-cons f x xs, none x, sum_none f xs none)

  one_here : (route number : ℕ) → cond (route == number) 1 0 ≡ one_at number route
  unfolding one_at
  one_here route number = ap (λ (b : Bool). cond b 1 0) (both_ways route number)

  -- an event is on as many of these as have its number
  sum_of_one : (route : ℕ) (xs : List X) → sum_by (λ x. cond (route == number_of x) 1 0) xs ≡ times (map number_of xs) route
  sum_of_one route [] = sym (times-none route)
  sum_of_one route (x ∷ xs) =
      omega (arith, sum_by-cons (λ y. cond (route == number_of y) 1 0) x xs, one_here route (number_of x), sum_of_one route xs, times-cons (number_of x) (map number_of xs) route)

  seen_test : (t : Bool) → ◌≡◌ {A = ℕ} (cond (t && true) 1 0) (cond t 1 0)
  seen_test true = refl
  seen_test false = refl

  unseen_test : (t : Bool) → ◌≡◌ {A = ℕ} (cond (t && false) 1 0) 0
  unseen_test true = refl
  unseen_test false = refl

  -- where each event that is seen is on one of them, those of all of them are all that are seen
  pub all_seen : (version : ℕ) (xs : List X) (events : List Event) → AllByRecursion (λ (e : Event). times (map number_of xs) e.route ≡ 1) (filter (sees_event version) events)
      → sum_by (λ x. length (spans_at version (number_of x) events)) xs ≡ length (filter (sees_event version) events)
  all_seen version xs [] on = sum_none (λ x. length (spans_at version (number_of x) [])) xs (λ x. refl)
  all_seen version xs (e ∷ es) on =
      by_test (sees_event version e) (all_seen version xs es)
      (sum_added (λ x. length (spans_at version (number_of x) (e ∷ es))) (λ x. cond (e.route == number_of x && sees_event version e) 1 0) (λ x. length (spans_at version (number_of x) es)) xs
      (λ x. seen_once version (number_of x) e es)) on where
        Sum : List Event → ℕ
        Sum l = sum_by (λ x. length (spans_at version (number_of x) l)) xs

        Seen : List Event
        Seen = filter (sees_event version) es

        by_test : (b : Bool) → (AllByRecursion (λ (one : Event). times (map number_of xs) one.route ≡ 1) Seen → Sum es ≡ length Seen)
            → Sum (e ∷ es) ≡ sum_by (λ x. cond (e.route == number_of x && b) 1 0) xs + Sum es
            → AllByRecursion (λ (one : Event). times (map number_of xs) one.route ≡ 1) (cond b (e ∷ Seen) Seen) → Sum (e ∷ es) ≡ length (cond b (e ∷ Seen) Seen)
        by_test true more split on =
            let one : sum_by (λ x. cond (e.route == number_of x && true) 1 0) xs ≡ 1 =
            ap (λ (f : X → ℕ). sum_by f xs) (λ i x. seen_test (e.route == number_of x) i) ∙ sum_of_one e.route xs ∙ on.0 in
            omega (arith, split, one, more on.1)
        by_test false more split on =
            omega (arith, split, sum_none (λ x. cond (e.route == number_of x && false) 1 0) xs (λ x. unseen_test (e.route == number_of x)), more on)

-- one that is there has its number once
once_there : {X : Type 0} (number_of : X → ℕ) (xs : List X) (x : X) → Contains xs x → 1 ≤ times (map number_of xs) (number_of x)
once_there {X} number_of xs x there = at xs there.0 there.1 there.2 where
  at : (xs : List X) (k : ℕ) → k < length xs → get_or xs k x ≡ x → 1 ≤ times (map number_of xs) (number_of x)
  at [] k inside is = absurd (omega (arith, inside))
  at (y ∷ xs) zero inside is =
      omega (arith, times-cons (number_of y) (map number_of xs) (number_of x), ap (λ z. one_at (number_of z) (number_of x)) is, one_at-same (number_of x))
  at (y ∷ xs) (suc k) inside is = omega (arith, times-cons (number_of y) (map number_of xs) (number_of x), at xs k (omega (arith, inside)) is)

-- ---- a table of the catalogue

numbers_listed : (routes : List RouteItem) → map (λ (e : Name × catalog.RouteItem). e.1.number) (map named_route routes) ≡ map (λ (route : RouteItem). route.number) routes
numbers_listed [] = refl
numbers_listed (route ∷ routes) = ap (λ l. route.number ∷ l) (numbers_listed routes)

module _ (pages : PageMap) (contents : Contents) (definitions : Definitions) (oldest : ℕ) (holds : HoldsAll pages contents) (meant : IsMeant oldest contents)
    (are : AreDefinitionsAt contents.directory.accepted contents.definitions definitions) (low : oldest ≤ contents.directory.accepted)
    (name : Name) (item : catalog.TableItem) (there : names.get definitions.tables name ≡ Some item) where
  abbrev level : ℕ
  level = contents.directory.accepted

  abbrev events : List Event
  events = events_of contents item.number

  abbrev number_of : Name × catalog.RouteItem → ℕ
  number_of e = e.1.number

  abbrev table : Table
  table = table_from definitions.routes (spans_seen contents level) item

  events_are_meant : AreEventsMeant (routes_at level contents.definitions.routes) item.kind level events
  events_are_meant = events_meant pages contents definitions oldest holds meant are name item there level low (omega arith)

  -- an event that is seen is on one route of the catalogue
  on_one : (number : ℕ) (IsSo : RouteSpan → Type 0) → HasRoute (routes_at level contents.definitions.routes) number IsSo → times (map number_of (names.entries definitions.routes)) number ≡ 1
  on_one number IsSo on =
      let from = source_of span_of_route (born_by level contents.definitions.routes) on.route on.there in
      let among = kept_there (is_born level) contents.definitions.routes from.source from.there in
      let same : from.source.number ≡ number = ap (λ (r : RouteSpan). r.number) from.is ∙ on.numbered in
      let numbers : List ℕ = map (λ (r : RouteItem). r.number) contents.definitions.routes in
      let listed : map number_of (names.entries definitions.routes) ≡ numbers =
      ap (map number_of) (routes_listed pages contents definitions oldest holds meant are) ∙ numbers_listed contents.definitions.routes in
      let least : 1 ≤ times numbers number = subst (λ (n : ℕ). 1 ≤ times numbers n) same (once_there (λ (r : RouteItem). r.number) contents.definitions.routes from.source among) in
      let most : times numbers number ≤ 1 = meant.definitions.routes.numbers_once number in
      omega (arith, ap (λ (l : List ℕ). times l number) listed, least, most)

  each_on_one : (es : List Event) → AllByRecursion (λ (e : Event). HasRoute (routes_at level contents.definitions.routes) e.route (IsSpanOf item.kind (span_of e))) es
      → AllByRecursion (λ (e : Event). times (map number_of (names.entries definitions.routes)) e.route ≡ 1) es
  each_on_one [] lie = tt
  each_on_one (e ∷ es) lie = (on_one e.route (IsSpanOf item.kind (span_of e)) lie.0, each_on_one es lie.1)

  -- ---- its runs on each route

  abbrev spans_by_name : Name → List Stretch
  spans_by_name route = on_numbered [] (λ (number : ℕ). spans_at level number events) (names.get definitions.routes route)

  facts_there : (route : Name) (on : catalog.RouteItem) → names.get definitions.routes route ≡ Some on → table.facts route ≡ facts_at level on.number events
  unfolding facts_from
  facts_there route on at = ap (on_numbered no_places (λ (number : ℕ). facts_at level number events)) at

  are_runs : (entries : List (Name × catalog.RouteItem)) → AllByRecursion (λ e. names.get definitions.routes e.0 ≡ Some e.1) entries
      → AreItsRuns table (map (λ e. (e.0, e.1.ends)) entries) spans_by_name
  are_runs [] each = tt
  are_runs (e ∷ es) each =
      let here = sym (ap (on_numbered [] (λ (number : ℕ). spans_at level number events)) each.0) in
      let facts = sym (facts_there e.0 e.1 each.0) in (
        (
          subst (λ (places : Places). AreAllRunsOf item.kind places (spans_by_name e.0)) facts
              (subst (λ (spans : List Stretch). AreAllRunsOf item.kind (facts_at level e.1.number events) spans) here (events_are_meant.runs e.1.number)),
          subst (LieWithin e.1.ends.start (e.1.ends.finish + 1)) facts
              (lie_on pages contents definitions oldest holds meant are item.kind events events_are_meant e.0 e.1 each.0),
        ),
        are_runs es each.1,
      )

  sums : (entries : List (Name × catalog.RouteItem)) → AllByRecursion (λ e. names.get definitions.routes e.0 ≡ Some e.1) entries
      → sum_by (λ (route : Name × RouteEnds). length (spans_by_name route.0)) (map (λ e. (e.0, e.1.ends)) entries) ≡ sum_by (λ (e : Name × catalog.RouteItem). length (spans_at level (number_of e) events)) entries
  sums [] each = refl
  sums (e ∷ es) each =
      sum_by-cons (λ (route : Name × RouteEnds). length (spans_by_name route.0)) (e.0, e.1.ends) (map (λ e. (e.0, e.1.ends)) es)
      ∙ (λ i. length (ap (on_numbered [] (λ (number : ℕ). spans_at level number events)) each.0 i) + sums es each.1 i)
      ∙ sym (sum_by-cons (λ (e : Name × catalog.RouteItem). length (spans_at level (number_of e) events)) e es)

  -- the living are as many as the runs on all routes
  living_are_runs : count_by lives events ≡ sum_by (λ (e : Name × catalog.RouteItem). length (spans_at level (number_of e) events)) (names.entries definitions.routes)
  living_are_runs =
      let lie = events_lie pages contents definitions oldest holds meant are name item there low in
      let before : level < LIVING = omega (arith, holds.limit) in
      sym (length-filter lives events)
      ∙ sym (ap length (held_present (kept_events lie.types) (events_are_kept lie.types) pages lie.standing level events lie.used lie.holds before))
      ∙ sym (all_seen number_of level (names.entries definitions.routes) events (each_on_one (filter (sees_event level) events) events_are_meant.lie))

  pub runs_are_living : (state : State) (referents : ℕ → Names ℕ) (rest : Rest) → state ≡ state_from definitions referents (spans_seen contents level) rest
      → runs_counted (world_of state) name ≡ count_by lives events
  runs_are_living state referents rest is =
      let entries = entries-map_values (λ (r : catalog.RouteItem). r.ends) definitions.routes in
      let each = each_entry definitions.routes in
      let world = world_from definitions (spans_seen contents level) in
      ap (λ (s : State). runs_counted (world_of s) name) is
      ∙ records-are_runs world name table spans_by_name (table_at definitions (spans_seen contents level) name item there)
      (subst (λ (routes : List (Name × RouteEnds)). AreItsRuns table routes spans_by_name) (sym entries) (are_runs (names.entries definitions.routes) each))
      ∙ ap (sum_by (λ (route : Name × RouteEnds). length (spans_by_name route.0))) entries
      ∙ sums (names.entries definitions.routes) each
      ∙ sym living_are_runs

-- ---- a store that stands in a state

module _ {D : Type 0} (d : disk.Ghosts D) (oldest : ℕ) (store : StoreState D) (state : State) (stands : StandsIn d oldest store state) (name : Name) (item : catalog.TableItem)
    (there : names.get store.catalog.tables name ≡ Some item) where
  living_kept : living_of store.file item.number ≡ count_by lives (events_of stands.contents item.number)
  living_kept =
      living_counted (committed d store.pager) stands.contents.directory.accepted item.number store.file.definitions.tables.items store.file.tables.items stands.contents.tables
      stands.keeps.opened.tables stands.keeps.holds.parts.tables
      ∙ ap (λ (said : CatalogueItems). count_by lives (events_with said.tables stands.contents.tables item.number)) (sym stands.keeps.opened.definitions)

  pub counted_in_state : StateIs d → runs_counted (world_of state) name ≡ living_of store.file item.number
  counted_in_state state_is =
      let referents : ℕ → Names ℕ = λ (route : ℕ). referents_on store.referents route in
      let rest : Rest = record { changes = store.file.accepted; cursors = no_cursors } in
      runs_are_living (committed d store.pager) stands.contents store.catalog oldest stands.keeps.holds stands.meant stands.keeps.memory.catalog stands.live name item there state referents rest
      (state_is oldest store state stands ∙ ap (λ (version : ℕ). state_from store.catalog referents (spans_seen stands.contents version) rest) (sym stands.keeps.opened.accepted))
      ∙ sym living_kept
