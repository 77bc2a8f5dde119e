-- The plan of a checked query, evaluated on the present of a state, has the query's rows.
use Rattle.std.proofs.Common.{◌≡◌, ℕ, true, List, [], ◌∷◌, ◌++◌, map, length, Option, Some, None, refl, sym, ap, subst, ◌∙◌, arith}
use Rattle.std.proofs.Math.Path.{fun_ext}
use Rattle.std.specs.Prelude.{Contains}
use Rattle.std.specs.List.{AllByRecursion}
use Rattle.std.specs.Option.{option_map}
use Rattle.std.specs.FinMap as names
use Rattle.std.proofs.lemmas.List.Elements.{All-from_recursion, All-contains}
use Rattle.rs_value.specs.declared.column.Kind.{Kind}
use Rattle.rs_facts.specs.Fact.{Name, Names, Places, Facts, contains, none, no_facts}
use Rattle.rs_facts.specs.Query.{World, Query, Table, table_columns, facts_of, rows_at, kind_of}
use Rattle.rs_facts.specs.Runs.{Stretch, AreRunsOf}
use Rattle.rs_facts.specs.WellFormed.{IsWellFormed}
use Rattle.rs_facts.proofs.Sets.{contains-none}
use Rattle.rs_planning.specs.Checked.{NamesItsColumns, RowsHaveTheirWidth}
use Rattle.rs_planning.specs.Laws.{PlansMeanTheirQueries, PlansAreWellFormed}
use Rattle.rs_planning.specs.Numbered.{Numbered, numbered_table, numbered_route, numbered_index}
use Rattle.rs_planning.specs.Basis.{Basis, present_basis}
use Rattle.rs_planning.specs.Plan as plans
use Rattle.rs_planning.specs.Plan.{plan_rows_at, plan_kind}
use Rattle.rs_planning.specs.Rule.{plan_of}
use Rattle.rs_planning.specs.WellFormedPlan.{IsWellFormedPlan}
use Rattle.rs_planning.proofs.Meeting.{every-append}
use Rattle.rs_machine.specs.State.{State, world_of}
use Rattle.rs_machine_laws.proofs.NamedColumns.{rows-wide}
use Rattle.rs_catalog.specs.Definitions.{RouteItem, TableItem, Definitions, AreDefinitions, indexes_of, facts_from, table_from, world_from}
use Rattle.rs_catalog.specs.Definitions as catalog
use Rattle.rs_catalog.specs.Names.{map_values}
use Rattle.rs_catalog.specs.Referents.{HeldReferents, referents_on}
use Rattle.rs_catalog.proofs.Names.{get-map_values}
use Rattle.rs_catalog.proofs.StateLaws.{get-routes_of, get-tables_from}
use Rattle.rs_catalog_laws.proofs.Numbers.{false_true}
use Rattle.rs_catalog_laws.proofs.States.{no_facts_of}
use Rattle.rs_checker.specs.declared.checked.Checked.{Checked}
use Rattle.rs_checker.specs.CheckedView.{query_of, named_in}
use Rattle.rs_checker.specs.Numbers.{IsNumberedIn, AreNumberedIn}
use Rattle.rs_plan.specs.Counted.{Counted, named_index}
use Rattle.rs_plan.specs.Planned.{IsPlanOf}
use Rattle.rs_plan.specs.PlanView as planned
use Rattle.rs_plan.specs.PlanView.{plan_tree}
use Rattle.rs_plan.specs.declared.counts.Index.{Index}
use Rattle.rs_plan.specs.declared.plan.Plan.{Plan}
use Rattle.rs_exec.specs.Snapshot.{Snapshot}
use Rattle.rs_exec.specs.Meaning.{rows_in, kind_in, is_well_formed}
use Rattle.rs_exec.specs.Agreement.{IsNumberedTable, AgreesOn, AreDistinct, HasItsEnds, PlansAreTheSame}
use Rattle.rs_answers.specs.Counts.{HasIndexes, AreCounted}
use Rattle.rs_answers.specs.Plans.{CanBePlanned, HasRowsOfQuery, IsPlanFor}
use Rattle.rs_answers.specs.Present.{IsDefinedBy, by_number, IsPresent}
use Rattle.rs_answers.proofs.RouteEnds.{ends_by, ends-there}
use Rattle.rs_answers.proofs.Counting.{IsBasisOf, all-counted}
use Rattle.rs_answers.proofs.States.{mapped-some, indexes-are, world-is, route-at, table-at}

-- ---- the numbers of routes

module _ (definitions : Definitions) (are : AreDefinitions definitions) where
  abbrev pub route_numbers : Names ℕ
  route_numbers = map_values (λ (item : RouteItem). item.number) definitions.routes

  pub route-numbered : (route : Name) (on : RouteItem) → names.get definitions.routes route ≡ Some on → names.get route_numbers route ≡ Some on.number
  route-numbered route on there = get-map_values (λ (item : RouteItem). item.number) definitions.routes route ∙ ap (option_map (λ (item : RouteItem). item.number)) there

  pub route-of : (route : Name) (number : ℕ) → names.get route_numbers route ≡ Some number → (on : RouteItem) × (names.get definitions.routes route ≡ Some on) × (on.number ≡ number)
  route-of route number there = mapped-some (λ (item : RouteItem). item.number) (names.get definitions.routes route) number
      (sym (get-map_values (λ (item : RouteItem). item.number) definitions.routes route) ∙ there)

  routes-distinct : AreDistinct route_numbers
  routes-distinct one other number a b =
      let first = route-of one number a in
      let second = route-of other number b in
      are.route_numbers one other first.0 second.0 first.1 second.1 (first.2 ∙ sym second.2)

-- ---- a world and a snapshot that have the same tables

-- each table of the definitions has in the world the rows that it has, by its number, in the snapshot, and so each route its ends; the
-- query is well formed there
pub record IsSeenIn (definitions : Definitions) (are : AreDefinitions definitions) (query : Query) (world : World) (snapshot : Snapshot) : Type 0 where
  pub tables : (name : Name) (item : TableItem) → names.get definitions.tables name ≡ Some item → IsNumberedTable world snapshot (route_numbers definitions are) name (by_number item)
  pub ends : HasItsEnds world snapshot (route_numbers definitions are)
  pub wide : RowsHaveTheirWidth world
  pub formed : IsWellFormed world query
  pub named : NamesItsColumns world query

module _ (definitions : Definitions) (are : AreDefinitions definitions) (query : Query) (world : World) (snapshot : Snapshot) (is : IsSeenIn definitions are query world snapshot) where
  agrees : (named : Numbered) → IsNumberedIn definitions named → AgreesOn world snapshot (route_numbers definitions are) named
  agrees (numbered_table name number kind width) numbered =
      subst (IsNumberedTable world snapshot (route_numbers definitions are) name)
      (λ i. record { number = numbered.2 i; kind = numbered.3 i; width = numbered.4 i })
      (is.tables name numbered.0 numbered.1)
  agrees (numbered_route name number) numbered = route-numbered definitions are name numbered.0 numbered.1 ∙ ap Some numbered.2
  agrees (numbered_index name number) numbered = tt

  abbrev Agrees : Numbered → Type 0
  Agrees = AgreesOn world snapshot (route_numbers definitions are)

  query-agrees : (named : List Numbered) → AreNumberedIn definitions named → AllByRecursion Agrees named
  query-agrees [] numbered = tt
  query-agrees (one ∷ named) numbered = (agrees one numbered.0, query-agrees named numbered.1)

  indexes-agree : (indexes : List Index) → AllByRecursion Agrees (map named_index indexes)
  indexes-agree [] = tt
  indexes-agree (index ∷ indexes) = (tt, indexes-agree indexes)

  among-agree : (all named : List Numbered) → AllByRecursion Agrees all → AllByRecursion (Contains all) named → AllByRecursion Agrees named
  among-agree all [] agree among = tt
  among-agree all (one ∷ named) agree among = (All-contains Agrees all one (All-from_recursion Agrees all agree) among.0, among-agree all named agree among.1)

-- ---- the plan

-- the counts by the names of tables
abbrev count_of : Counted → Option TableItem → ℕ
count_of counts None = 0
count_of counts (Some table) = counts.records table.number

module _ (mean : PlansMeanTheirQueries) (form : PlansAreWellFormed) (same : PlansAreTheSame)
    (definitions : Definitions) (are : AreDefinitions definitions) (counts : Counted) (seen : HasIndexes definitions counts)
    (checked : Checked) (can : CanBePlanned definitions checked) (plan : Plan) (by_rule : IsPlanOf counts checked plan) where
  abbrev query : Query
  query = query_of checked.query

  by-basis : (basis : Basis) → IsBasisOf definitions counts basis → IsWellFormed basis.world query → plan_tree plan ≡ plan_of basis query
  by-basis basis is formed = by_rule.tree basis (record {
    well_formed = formed;
    few = omega (arith, can.few);
    tables = all-counted definitions are counts seen basis is (named_in checked.query) can.numbers;
  })

  -- what is so of the plan in a world and a snapshot
  record IsPlanIn (world : World) (snapshot : Snapshot) : Type 0 where
    pub formed : is_well_formed plan ≡ true
    pub kind : kind_in plan ≡ kind_of world query
    pub rows : (route : Name) (on : RouteItem) → names.get definitions.routes route ≡ Some on → (k : ℕ) → rows_in plan snapshot on.number k ≡ rows_at world query route k

  module _ (world : World) (snapshot : Snapshot) (is : IsSeenIn definitions are query world snapshot) where
    abbrev basis : Basis
    basis = record { world = world; record_count = λ name. count_of counts (names.get definitions.tables name); indexes = indexes_of definitions }

    basis-is : IsBasisOf definitions counts basis
    basis-is = record {
      indexes = refl;
      columns = λ name table there. let numbered = is.tables name table there in ap (λ (o : Option Table). length (table_columns o)) numbered.there ∙ numbered.width;
      records = λ name table there. ap (count_of counts) there;
    }

    tree-is : plan_tree plan ≡ plan_of basis query
    tree-is = by-basis basis basis-is is.formed

    plan-agrees : AllByRecursion (Agrees definitions are query world snapshot is) (planned.named_in plan)
    plan-agrees = among-agree definitions are query world snapshot is (named_in checked.query ++ map named_index counts.indexes) (planned.named_in plan)
        (every-append (Agrees definitions are query world snapshot is) (named_in checked.query) (map named_index counts.indexes)
        (query-agrees definitions are query world snapshot is (named_in checked.query) can.numbers) (indexes-agree definitions are query world snapshot is counts.indexes))
        by_rule.numbers

    plan-in : IsPlanIn world snapshot
    plan-in =
        let means = mean basis query is.wide is.formed is.named in
        let alike = same world snapshot (route_numbers definitions are) plan (routes-distinct definitions are) is.ends plan-agrees in
        record {
          formed = alike.formed (subst (IsWellFormedPlan world) (sym tree-is) (form basis query is.formed is.named));
          kind = alike.kind ∙ ap (plan_kind world) tree-is ∙ means.kind;
          rows = λ route on there k.
              alike.rows route on.number (route-numbered definitions are route on there) k
              ∙ ap (λ (tree : plans.Plan). plan_rows_at world tree route k) tree-is
              ∙ means.rows route k;
        }

  -- ---- where tables have no rows

  abbrev no_spans : ℕ → ℕ → List Stretch
  no_spans table route = []

  abbrev empty_world : World
  empty_world = world_from definitions no_spans

  abbrev empty_snapshot : Snapshot
  empty_snapshot = record { rows = λ table route k. none; ends = ends_by (names.entries definitions.routes) }

  no-facts : facts_from definitions.routes (λ route. []) ≡ no_facts
  no-facts = no_facts_of definitions.routes (λ route. []) (λ route. refl)

  no-rows : (route : Name) (k : ℕ) → facts_from definitions.routes (λ route. []) route k ≡ none
  no-rows route k = ap (λ (facts : Facts). facts route k) no-facts

  wide-nowhere : RowsHaveTheirWidth empty_world
  wide-nowhere name table at route k row holding =
      let found = mapped-some (table_from definitions.routes no_spans) (names.get definitions.tables name) table (sym (get-tables_from definitions no_spans name) ∙ at) in
      let held = ap (λ (t : Table). contains (t.facts route k) row) found.2 ∙ holding in
      false_true (sym (contains-none row) ∙ ap (λ rows. contains rows row) (sym (no-rows route k)) ∙ held)

  ends-nowhere : HasItsEnds empty_world empty_snapshot (route_numbers definitions are)
  ends-nowhere route number numbered =
      let on = route-of definitions are route number numbered in
      get-routes_of definitions route
      ∙ ap (option_map (λ (item : RouteItem). item.ends)) on.1
      ∙ sym (ends-there definitions.routes are.route_numbers route on.0 on.1)
      ∙ ap (ends_by (names.entries definitions.routes)) on.2

  seen-nowhere : IsSeenIn definitions are query empty_world empty_snapshot
  seen-nowhere = record {
    tables = λ name item there. record {
      named = table_from definitions.routes no_spans item;
      there = get-tables_from definitions no_spans name ∙ ap (option_map (table_from definitions.routes no_spans)) there;
      kind = refl;
      width = refl;
      facts = λ route number numbered k. no-rows route k;
    };
    ends = ends-nowhere;
    wide = wide-nowhere;
    formed = can.well_formed no_spans;
    named = can.named no_spans;
  }

  pub plan-formed : is_well_formed plan ≡ true
  plan-formed = (plan-in empty_world empty_snapshot seen-nowhere).formed

  pub plan-kind : kind_in plan ≡ checked.kind
  plan-kind = (plan-in empty_world empty_snapshot seen-nowhere).kind ∙ sym (can.kind no_spans)

  -- ---- by the counts of a state

  pub plan-by_rule : (state : State) → AreCounted definitions state counts → plan_tree plan ≡ plan_of (present_basis (world_of state) state.indexes) query
  plan-by_rule state counted =
      let is = counted.defined in
      by-basis (present_basis (world_of state) state.indexes)
      (record {
        indexes = indexes-are definitions counted.referents state is;
        columns = λ name table there. ap (λ (o : Option Table). length (table_columns o)) (table-at definitions counted.referents state is name table there);
        records = λ name table there. sym (counted.records name table there);
      })
      (subst (λ (w : World). IsWellFormed w query) (sym (world-is definitions counted.referents state is)) (can.well_formed is.spans))

  -- ---- in the present of a state

  module _ (referents : catalog.Numbered HeldReferents) (state : State) (snapshot : Snapshot) (present : IsPresent definitions referents state snapshot) where
    abbrev is : IsDefinedBy definitions (referents_on referents) state
    is = present.defined

    facts-there : (name : Name) (item : TableItem) → names.get definitions.tables name ≡ Some item → (route : Name) (number : ℕ) → names.get (route_numbers definitions are) route ≡ Some number
        → (k : ℕ) → (table_from definitions.routes is.spans item).facts route k ≡ snapshot.rows (by_number item) number k
    facts-there name item there route number numbered k =
        let on = route-of definitions are route number numbered in
        ap (λ (o : Option Table). facts_of o route k) (sym (table-at definitions (referents_on referents) state is name item there))
        ∙ sym (present.rows.rows name item there route on.0 on.1 k)
        ∙ ap (λ (n : ℕ). snapshot.rows (by_number item) n k) on.2

    ends-present : HasItsEnds (world_of state) snapshot (route_numbers definitions are)
    ends-present route number numbered =
        let on = route-of definitions are route number numbered in
        route-at definitions (referents_on referents) state is route on.0 on.1 ∙ sym (present.ends route on.0 on.1) ∙ ap snapshot.ends on.2

    seen-there : IsSeenIn definitions are query (world_of state) snapshot
    seen-there = record {
      tables = λ name item there. record {
        named = table_from definitions.routes is.spans item;
        there = table-at definitions (referents_on referents) state is name item there;
        kind = refl;
        width = refl;
        facts = facts-there name item there;
      };
      ends = ends-present;
      wide = rows-wide state present.lawful;
      formed = subst (λ (w : World). IsWellFormed w query) (sym (world-is definitions (referents_on referents) state is)) (can.well_formed is.spans);
      named = subst (λ (w : World). NamesItsColumns w query) (sym (world-is definitions (referents_on referents) state is)) (can.named is.spans);
    }

    plan-there : HasRowsOfQuery definitions query plan state snapshot
    plan-there =
        let there = plan-in (world_of state) snapshot seen-there in
        record { formed = seen-there.formed; kind = there.kind; rows = there.rows }

  pub plan-means : IsPlanFor definitions query plan
  plan-means = record { means = plan-there }

-- ---- its runs on a route are those of the query

pub runs-planned : (definitions : Definitions) (query : Query) (plan : Plan) (state : State) (snapshot : Snapshot) → HasRowsOfQuery definitions query plan state snapshot
    → (route : Name) (on : RouteItem) → names.get definitions.routes route ≡ Some on
    → (runs : List Stretch) → AreRunsOf (kind_in plan) (rows_in plan snapshot on.number) runs → AreRunsOf (kind_of (world_of state) query) (rows_at (world_of state) query route) runs
runs-planned definitions query plan state snapshot has route on there runs are =
    subst (λ (places : Places). AreRunsOf (kind_of (world_of state) query) places runs) (fun_ext (has.rows route on there))
    (subst (λ (k : Kind). AreRunsOf k (rows_in plan snapshot on.number) runs) has.kind are)
