-- What the state of the machine is once definitions, referents or their routes are added or taken out.
use Rattle.std.proofs.Common.{◌≡◌, ℕ, true, false, cond, not, List, [], nat_eq, Option, Some, None, refl, sym, ap, ◌∙◌}
use Rattle.std.proofs.Math.Path.{fun_ext}
use Rattle.std.proofs.lemmas.Bool.Decides.{Decides-eqb}
use Rattle.std.specs.Option.{option_map}
use Rattle.std.specs.Cmp.{eq_by_cmp_equiv}
use Rattle.std.specs.FinMap as names
use Rattle.std.specs.FinMap.{get-empty, get-insert, get-remove, get-retain_keys, get_tied, same_map}
use Rattle.rs_facts.specs.Fact.{Name, Names, Facts, name_cmp, no_facts}
use Rattle.rs_facts.specs.Insert.{same_name}
use Rattle.rs_facts.specs.Query.{Table}
use Rattle.rs_facts.specs.Runs.{Stretch}
use Rattle.rs_facts.specs.Spans.{places_of}
use Rattle.rs_syntax.specs.QueryView.{query_tree}
use Rattle.rs_machine.specs.State.{no_referents}
use Rattle.rs_machine.specs.Step.{referents_at, empty_table}
use Rattle.rs_catalog.specs.Definitions.{RouteItem, TableItem, IndexItem, ViewItem, Definitions, no_definitions, indexed_column, indexes_of, AreNumbered, routes_of, views_of, on_numbered, no_places, facts_from, table_from, tables_from, referents_from}
use Rattle.rs_machine.specs.Step as machine
use Rattle.rs_catalog.specs.Changes.{with_route, with_table, with_index, with_view, without_route, is_of_another, indexes_of_others, without_table, without_index, without_view}
use Rattle.rs_catalog.specs.Referents.{at_number}
use Rattle.rs_catalog.specs.Names.{map_values}
use Rattle.rs_catalog.proofs.NameOrder.{name_cmp-total, name_cmp-antisymmetric}
use Rattle.rs_catalog.proofs.DefinitionLaws.{get-others}
use Rattle.rs_catalog.proofs.Names.{get-map_values, len-map_values, map_values-empty, map_values-insert, map_values-remove}
use Rattle.rs_catalog.proofs.MapLaws.{same_name-true}

abbrev SpansOn : Type 0
SpansOn = ℕ → ℕ → List Stretch

false_true : {P : Type 0} → false ≡ true → P
false_true e = cc

-- ---- what stands under a name

pub get-routes_of : (definitions : Definitions) (name : Name) → names.get (routes_of definitions) name ≡ option_map (λ item. item.ends) (names.get definitions.routes name)
get-routes_of definitions name = get-map_values (λ (item : RouteItem). item.ends) definitions.routes name

pub get-views_of : (definitions : Definitions) (name : Name) → names.get (views_of definitions) name ≡ option_map (λ item. query_tree item.query) (names.get definitions.views name)
get-views_of definitions name = get-map_values (λ (item : ViewItem). query_tree item.query) definitions.views name

pub get-tables_from : (definitions : Definitions) (spans_on : SpansOn) (name : Name)
    → names.get (tables_from definitions spans_on) name ≡ option_map (table_from definitions.routes spans_on) (names.get definitions.tables name)
unfolding tables_from
get-tables_from definitions spans_on name = get-map_values (table_from definitions.routes spans_on) definitions.tables name

-- ---- how many there are

pub len-routes_of : (definitions : Definitions) → names.len (routes_of definitions) ≡ names.len definitions.routes
len-routes_of definitions = len-map_values (λ (item : RouteItem). item.ends) definitions.routes

pub len-views_of : (definitions : Definitions) → names.len (views_of definitions) ≡ names.len definitions.views
len-views_of definitions = len-map_values (λ (item : ViewItem). query_tree item.query) definitions.views

pub len-tables_from : (definitions : Definitions) (spans_on : SpansOn) → names.len (tables_from definitions spans_on) ≡ names.len definitions.tables
unfolding tables_from
len-tables_from definitions spans_on = len-map_values (table_from definitions.routes spans_on) definitions.tables

-- ---- nothing is defined

pub routes_of-none : routes_of no_definitions ≡ names.empty
routes_of-none = map_values-empty (λ (item : RouteItem). item.ends)

pub views_of-none : views_of no_definitions ≡ names.empty
views_of-none = map_values-empty (λ (item : ViewItem). query_tree item.query)

pub tables_from-none : (spans_on : SpansOn) → tables_from no_definitions spans_on ≡ names.empty
unfolding tables_from
tables_from-none spans_on = map_values-empty (table_from no_definitions.routes spans_on)

pub referents_from-none : (referents_on : ℕ → Names ℕ) → referents_from no_definitions referents_on ≡ no_referents
unfolding referents_from
referents_from-none referents_on = fun_ext (λ route. ap (on_numbered names.empty referents_on) (get-empty name_cmp route))

-- ---- one is added

pub routes_of-with_route : (definitions : Definitions) (name : Name) (item : RouteItem) → routes_of (with_route definitions name item) ≡ names.insert (routes_of definitions) name item.ends
routes_of-with_route definitions name item = map_values-insert (λ (item : RouteItem). item.ends) definitions.routes name item

pub views_of-with_view : (definitions : Definitions) (name : Name) (item : ViewItem) → views_of (with_view definitions name item) ≡ names.insert (views_of definitions) name (query_tree item.query)
views_of-with_view definitions name item = map_values-insert (λ (item : ViewItem). query_tree item.query) definitions.views name item

-- a table of which no route has spans has no facts
facts_from-none : (routes : Names RouteItem) (spans_on : ℕ → List Stretch) → ((route : ℕ) → spans_on route ≡ []) → facts_from routes spans_on ≡ no_facts
unfolding facts_from
facts_from-none routes spans_on none = fun_ext (λ route. at (names.get routes route))
  where
    at : (o : Option RouteItem) → on_numbered no_places (λ number. places_of (spans_on number)) o ≡ no_places
    at None = refl
    at (Some item) = ap places_of (none item.number)

abbrev with_facts : TableItem → Facts → Table
with_facts item facts = record { kind = item.kind; columns = item.columns; facts = facts }

pub tables_from-with_table : (definitions : Definitions) (spans_on : SpansOn) (name : Name) (item : TableItem) → ((route : ℕ) → spans_on item.number route ≡ [])
    → tables_from (with_table definitions name item) spans_on ≡ names.insert (tables_from definitions spans_on) name (empty_table item.kind item.columns)
unfolding tables_from
tables_from-with_table definitions spans_on name item none =
    map_values-insert (table_from definitions.routes spans_on) definitions.tables name item
    ∙ ap (λ (facts : Facts). names.insert (map_values (table_from definitions.routes spans_on) definitions.tables) name (with_facts item facts)) (facts_from-none definitions.routes (spans_on item.number) none)

-- other routes give the same tables where they give the same facts
tables_from-routes : (definitions : Definitions) (routes : Names RouteItem) (spans_on : SpansOn) → ((table : ℕ) → facts_from routes (spans_on table) ≡ facts_from definitions.routes (spans_on table))
    → tables_from (record definitions { routes = routes }) spans_on ≡ tables_from definitions spans_on
unfolding tables_from
tables_from-routes definitions routes spans_on same =
    ap (λ (see : TableItem → Table). map_values see definitions.tables) (fun_ext (λ (item : TableItem). ap (λ (facts : Facts). with_facts item facts) (same item.number)))

-- what is seen of a route by its number, after a name took a route that none had
on_new_route : {X : Type 0} (nothing : X) (by_number : ℕ → X) (routes : Names RouteItem) (name : Name) (item : RouteItem) → names.get routes name ≡ None → by_number item.number ≡ nothing
    → (route : Name) → on_numbered nothing by_number (names.get (names.insert routes name item) route) ≡ on_numbered nothing by_number (names.get routes route)
on_new_route nothing by_number routes name item new none route =
    ap (on_numbered nothing by_number) (get-insert name_cmp-total routes name item route)
    ∙ elim (same_name route name) as (λ b. same_name route name ≡ b → on_numbered nothing by_number (cond b (Some item) (names.get routes route)) ≡ on_numbered nothing by_number (names.get routes route)) [
      | true ↦ λ same. none ∙ ap (on_numbered nothing by_number) (sym (ap (names.get routes) (same_name-true route name same) ∙ new))
      | false ↦ λ other. refl
    ] refl

-- a route on which no table has spans changes no table
pub tables_from-with_route : (definitions : Definitions) (spans_on : SpansOn) (name : Name) (item : RouteItem) → names.get definitions.routes name ≡ None → ((table : ℕ) → spans_on table item.number ≡ [])
    → tables_from (with_route definitions name item) spans_on ≡ tables_from definitions spans_on
unfolding facts_from
tables_from-with_route definitions spans_on name item new none = tables_from-routes definitions (names.insert definitions.routes name item) spans_on (λ table. fun_ext (λ route.
    on_new_route no_places (λ number. places_of (spans_on table number)) definitions.routes name item new (ap places_of (none table)) route))

-- a route that has no referents changes none
pub referents_from-with_route : (definitions : Definitions) (referents_on : ℕ → Names ℕ) (name : Name) (item : RouteItem) → names.get definitions.routes name ≡ None → referents_on item.number ≡ names.empty
    → referents_from (with_route definitions name item) referents_on ≡ referents_from definitions referents_on
unfolding referents_from
referents_from-with_route definitions referents_on name item new none = fun_ext (λ route. on_new_route names.empty referents_on definitions.routes name item new none route)

pub indexes_of-none : indexes_of no_definitions ≡ names.empty
indexes_of-none = map_values-empty indexed_column

pub get-indexes_of : (definitions : Definitions) (name : Name) → names.get (indexes_of definitions) name ≡ option_map indexed_column (names.get definitions.indexes name)
get-indexes_of definitions name = get-map_values indexed_column definitions.indexes name

pub len-indexes_of : (definitions : Definitions) → names.len (indexes_of definitions) ≡ names.len definitions.indexes
len-indexes_of definitions = len-map_values indexed_column definitions.indexes

pub indexes_of-with_index : (definitions : Definitions) (name : Name) (item : IndexItem) → indexes_of (with_index definitions name item) ≡ names.insert (indexes_of definitions) name (indexed_column item)
indexes_of-with_index definitions name item = map_values-insert indexed_column definitions.indexes name item

-- ---- one is taken out

pub indexes_of-without_index : (definitions : Definitions) (name : Name) → indexes_of (without_index definitions name) ≡ names.remove (indexes_of definitions) name
indexes_of-without_index definitions name = map_values-remove indexed_column definitions.indexes name

same_others : (table : Name) (o : Option IndexItem) → option_map indexed_column (cond (is_of_another table o) o None) ≡ cond (machine.is_of_another table (option_map indexed_column o)) (option_map indexed_column o) None
same_others table None = refl
same_others table (Some item) = elim (same_name table item.table) as (λ b. option_map indexed_column (cond (not b) (Some item) None) ≡ cond (not b) (Some (indexed_column item)) None) [ true ↦ refl | false ↦ refl ]

pub indexes_of-without_table : (definitions : Definitions) (name : Name) → indexes_of (without_table definitions name) ≡ machine.indexes_of_others name (indexes_of definitions)
unfolding machine.indexes_of_others
indexes_of-without_table definitions name = same_map name_cmp-total name_cmp-antisymmetric _ _ (λ q.
    get-map_values indexed_column (indexes_of_others name definitions.indexes) q
    ∙ ap (option_map indexed_column) (get-others name definitions.indexes q)
    ∙ same_others name (names.get definitions.indexes q)
    ∙ ap (λ o. cond (machine.is_of_another name o) o None) (sym (get-indexes_of definitions q))
    ∙ sym (get-retain_keys (indexes_of definitions) (λ n. machine.is_of_another name (names.get (indexes_of definitions) n)) q
    (λ x tied. ap (machine.is_of_another name) (get_tied name_cmp-total (indexes_of definitions) q x tied))))

pub routes_of-without_route : (definitions : Definitions) (name : Name) → routes_of (without_route definitions name) ≡ names.remove (routes_of definitions) name
routes_of-without_route definitions name = map_values-remove (λ (item : RouteItem). item.ends) definitions.routes name

pub views_of-without_view : (definitions : Definitions) (name : Name) → views_of (without_view definitions name) ≡ names.remove (views_of definitions) name
views_of-without_view definitions name = map_values-remove (λ (item : ViewItem). query_tree item.query) definitions.views name

pub tables_from-without_table : (definitions : Definitions) (spans_on : SpansOn) (name : Name) → tables_from (without_table definitions name) spans_on ≡ names.remove (tables_from definitions spans_on) name
unfolding tables_from
tables_from-without_table definitions spans_on name = map_values-remove (table_from definitions.routes spans_on) definitions.tables name

-- what is seen of a route by its number, after the route of a name was taken out
on_old_route : {X : Type 0} (nothing : X) (by_number : ℕ → X) (routes : Names RouteItem) (name : Name) (item : RouteItem) → names.get routes name ≡ Some item → by_number item.number ≡ nothing
    → (route : Name) → on_numbered nothing by_number (names.get (names.remove routes name) route) ≡ on_numbered nothing by_number (names.get routes route)
on_old_route nothing by_number routes name item there none route =
    ap (on_numbered nothing by_number) (get-remove name_cmp-total routes name route)
    ∙ elim (same_name route name) as (λ b. same_name route name ≡ b → on_numbered nothing by_number (cond b None (names.get routes route)) ≡ on_numbered nothing by_number (names.get routes route)) [
      | true ↦ λ same. sym (ap (on_numbered nothing by_number) (ap (names.get routes) (same_name-true route name same) ∙ there) ∙ none)
      | false ↦ λ other. refl
    ] refl

pub tables_from-without_route : (definitions : Definitions) (spans_on : SpansOn) (name : Name) (item : RouteItem) → names.get definitions.routes name ≡ Some item → ((table : ℕ) → spans_on table item.number ≡ [])
    → tables_from (without_route definitions name) spans_on ≡ tables_from definitions spans_on
unfolding facts_from
tables_from-without_route definitions spans_on name item there none = tables_from-routes definitions (names.remove definitions.routes name) spans_on (λ table. fun_ext (λ route.
    on_old_route no_places (λ number. places_of (spans_on table number)) definitions.routes name item there (ap places_of (none table)) route))

-- ---- one route's referents are others

module _ (definitions : Definitions) (referents_on : ℕ → Names ℕ) (name : Name) (item : RouteItem) (referents : Names ℕ) (numbered : AreNumbered (λ item. item.number) definitions.routes) (there : names.get definitions.routes name ≡ Some item) where
  -- another route has another number
  other_route : (route : Name) → same_name route name ≡ false
      → on_numbered names.empty (at_number item.number referents referents_on) (names.get definitions.routes route) ≡ on_numbered names.empty referents_on (names.get definitions.routes route)
  unfolding at_number
  other_route route apart =
      elim (names.get definitions.routes route) as (λ o. names.get definitions.routes route ≡ o → on_numbered names.empty (at_number item.number referents referents_on) o ≡ on_numbered names.empty referents_on o) [
        | None ↦ λ at. refl
        | Some other ↦ λ at.
            elim (nat_eq other.number item.number) as (λ b. nat_eq other.number item.number ≡ b → cond b referents (referents_on other.number) ≡ referents_on other.number) [
              | true ↦ λ same. false_true (sym apart ∙ ap (λ n. same_name n name) (numbered route name other item at there ((Decides-eqb other.number item.number).0 same)) ∙ (eq_by_cmp_equiv name_cmp-total).refl name)
              | false ↦ λ unlike. refl
            ] refl
      ] refl

  own_route : at_number item.number referents referents_on item.number ≡ referents
  unfolding at_number
  own_route = ap (λ b. cond b referents (referents_on item.number)) ((Decides-eqb item.number item.number).1 refl)

  pub referents_from-at : referents_from definitions (at_number item.number referents referents_on) ≡ referents_at name referents (referents_from definitions referents_on)
  unfolding referents_from referents_at
  referents_from-at = fun_ext (λ route.
      elim (same_name route name) as (λ b. same_name route name ≡ b
      → on_numbered names.empty (at_number item.number referents referents_on) (names.get definitions.routes route) ≡ cond b referents (on_numbered names.empty referents_on (names.get definitions.routes route))) [
        | true ↦ λ same. ap (on_numbered names.empty (at_number item.number referents referents_on)) (ap (names.get definitions.routes) (same_name-true route name same) ∙ there) ∙ own_route
        | false ↦ λ apart. other_route route apart
      ] refl)

  -- a route goes, and so do its referents
  pub referents_from-without_route : referents_from (without_route definitions name) (at_number item.number referents referents_on) ≡ referents_at name names.empty (referents_from definitions referents_on)
  unfolding referents_from referents_at
  referents_from-without_route = fun_ext (λ route.
      ap (on_numbered names.empty (at_number item.number referents referents_on)) (get-remove name_cmp-total definitions.routes name route)
      ∙ elim (same_name route name) as (λ b. same_name route name ≡ b
      → on_numbered names.empty (at_number item.number referents referents_on) (cond b None (names.get definitions.routes route)) ≡ cond b names.empty (on_numbered names.empty referents_on (names.get definitions.routes route))) [
        | true ↦ λ same. refl
        | false ↦ λ apart. other_route route apart
      ] refl)
