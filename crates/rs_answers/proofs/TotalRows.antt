-- The rows of a query along all routes, and what the machine answers to totals of a checked query.
use Rattle.std.proofs.Common.{◌≡◌, ℕ, ◌+◌, ◌<◌, ◌^◌, List, [], ◌∷◌, ◌++◌, map, length, take, get_or, Option, Some, Result, Ok, Err, refl, sym, ap, subst, ◌∙◌, arith}
use Rattle.std.proofs.lemmas.List.{length-map, length-take, map-append, take_more}
use Rattle.std.proofs.Math.Seq.{take-length}
use Rattle.std.specs.FinMap as names
use Rattle.rs_refusal.specs.declared.refusal.Refusal.{Refusal}
use Rattle.rs_measure.specs.declared.measure.TheConstants.{GREATEST_MEASURE}
use Rattle.rs_facts.specs.Fact.{Name}
use Rattle.rs_facts.specs.Query.{RouteEnds, Query, kind_of}
use Rattle.rs_facts.specs.Runs.{Stretch, AreRunsOf}
use Rattle.rs_facts.specs.Totals.{Along, Total, totalled}
use Rattle.rs_facts.specs.TotalText.{total_text}
use Rattle.rs_machine.specs.declared.limits.TheConstants.{ROUTES}
use Rattle.rs_machine.specs.State.{State, RowText, world_of}
use Rattle.rs_machine.specs.Checks.{◌>>=◌}
use Rattle.rs_machine.specs.Checking.{columns_in, group_checked, summed_checked}
use Rattle.rs_machine.specs.Step.{Effect, effect, rows_along}
use Rattle.rs_catalog.specs.Definitions.{Numbered, RouteItem, Definitions}
use Rattle.rs_catalog.specs.Referents.{HeldReferents, referents_on}
use Rattle.rs_catalog.proofs.Names.{entries-map_values}
use Rattle.rs_plan.specs.declared.plan.Plan.{Plan}
use Rattle.rs_exec.specs.Snapshot.{Snapshot}
use Rattle.rs_exec.specs.Meaning.{rows_in, kind_in}
use Rattle.rs_total.specs.Totalling.{AreRunsAlong, AreTotalsOf}
use Rattle.rs_total.specs.Tally.{Tally}
use Rattle.rs_catalog.specs.declared.entries.NamedRoute.{NamedRoute}
use Rattle.rs_answers.specs.Routes.{entry_of, AreVisited}
use Rattle.rs_answers.specs.Plans.{IsPlanFor}
use Rattle.rs_answers.specs.Present.{IsPresent}
use Rattle.rs_answers.specs.Totalled.{along_route, totals_of_query, HasTotalsOf}
use Rattle.rs_answers.proofs.PlannedRows.{runs-planned}
use Rattle.rs_answers.proofs.QueryRuns.{RowsLieOnRoutes, query-within}
use Rattle.rs_answers.proofs.States.{route-at, routes-are}
use Rattle.rs_answers.proofs.TotalsVisited.{totalled-visited}
use Rattle.rs_answers.proofs.VisitedRoutes.{query-nothing, visited-few}

-- ---- the rows along the routes

abbrev pub along_named : State → Query → NamedRoute → Along
along_named state query named = along_route state query named.name.bytes named.route.ends

abbrev along_entry : State → Query → Name × RouteItem → Along
along_entry state query entry = along_route state query entry.0 entry.1.ends

abbrev pub along_so_far : State → Query → List NamedRoute → List Along
along_so_far state query routes = map (along_named state query) routes

map-map : {X Y Z : Type 0} (f : X → Y) (g : Y → Z) (xs : List X) → map g (map f xs) ≡ map (λ x. g (f x)) xs
map-map f g [] = refl
map-map f g (x ∷ xs) = ap (λ ys. g (f x) ∷ ys) (map-map f g xs)

module _ (definitions : Definitions) (referents : Numbered HeldReferents) (state : State) (snapshot : Snapshot) (present : IsPresent definitions referents state snapshot) where
  -- along the routes of the definitions, which are those of the state
  along-entries : (query : Query) → map (along_entry state query) (names.entries definitions.routes) ≡ rows_along state query
  along-entries query =
      let ends : Name × RouteItem → Name × RouteEnds = λ e. (e.0, e.1.ends) in
      let each : Name × RouteEnds → Along = λ e. along_route state query e.0 e.1 in
      sym (map-map ends each (names.entries definitions.routes))
      ∙ ap (map each) (sym (entries-map_values (λ (item : RouteItem). item.ends) definitions.routes) ∙ ap names.entries (sym (routes-are definitions (referents_on referents) state present.defined)))

  module _ (plan : Plan) (routes : List NamedRoute) (visited : AreVisited definitions plan (map entry_of routes)) (query : Query) where
    -- the totals along the routes that are looked at are those along all
    pub totals-all : IsPlanFor definitions query plan → (group : List ℕ) (column : Option ℕ) → totalled group column (along_so_far state query routes) ≡ totalled group column (rows_along state query)
    totals-all for group column =
        ap (totalled group column) (sym (map-map entry_of (along_entry state query) routes))
        ∙ totalled-visited definitions plan (map entry_of routes) visited (along_entry state query) (λ e there nothing. query-nothing definitions referents state snapshot present query plan for e.0 e.1 there nothing) group column
        ∙ ap (totalled group column) (along-entries query)

    pub few-so-far : (k : ℕ) → length (along_so_far state query (take k routes)) < 2 ^ 31
    few-so-far k =
        let each = length-map (take k routes) (along_named state query) in
        let some = length-take k routes in
        let entries = length-map routes entry_of in
        let kept = visited-few definitions plan (map entry_of routes) visited in
        let named =
        sym (length-map (names.entries definitions.routes) (along_entry state query)) ∙ ap length (along-entries query)
        ∙ length-map (names.entries state.routes) (λ (e : Name × RouteEnds). along_route state query e.0 e.1) ∙ sym (names.len-entries state.routes) in
        let few = present.lawful.limits.routes in
        let limit : ROUTES ≡ 4096 = refl in
        let power : 2 ^ 31 ≡ 2147483648 = refl in
        omega (arith, each, some, entries, kept, named, few, limit, power)

  -- the runs on one route are those along it
  module _ (rows-lie : RowsLieOnRoutes) (query : Query) (plan : Plan) (for : IsPlanFor definitions query plan) (route : Name) (on : RouteItem) (there : names.get definitions.routes route ≡ Some on) where
    pub runs-along : (runs : List Stretch) → AreRunsOf (kind_in plan) (rows_in plan snapshot on.number) runs → AreRunsAlong (kind_of (world_of state) query) (along_route state query route on.ends) runs
    runs-along runs are =
        let means = for.means referents state snapshot present in
        let there-too = route-at definitions (referents_on referents) state present.defined route on there in
        record {
          maximal = runs-planned definitions query plan state snapshot means route on there runs are;
          within = query-within rows-lie state present.lawful query means.formed route on.ends there-too;
          short =
              let measured = (present.lawful.routes route on.ends there-too).end_is_measure in
              let greatest : GREATEST_MEASURE ≡ 999999999 = refl in
              let power : 2 ^ 32 ≡ 4294967296 = refl in
              omega (arith, measured, greatest, power);
        }

-- one route more
pub totals-more : (state : State) (query : Query) (group : List ℕ) (column : Option ℕ) (routes : List NamedRoute) (k : ℕ) (one : NamedRoute) (tally : Tally) → k < length routes → one ≡ get_or routes k one
    → AreTotalsOf group column (along_so_far state query (take k routes) ++ along_named state query one ∷ []) tally → AreTotalsOf group column (along_so_far state query (take (k + 1) routes)) tally
totals-more state query group column routes k one tally h is are =
    subst (λ (done : List Along). AreTotalsOf group column done tally)
    (
    ap (λ (named : NamedRoute). along_so_far state query (take k routes) ++ along_named state query named ∷ []) is
    ∙ sym (map-append (along_named state query) (take k routes) (get_or routes k one ∷ []))
    ∙ ap (along_so_far state query) (sym (take_more routes k one h))
    ) are

pub totals-end : (state : State) (query : Query) (group : List ℕ) (column : Option ℕ) (routes : List NamedRoute) (k : ℕ) (tally : Tally) → k ≡ length routes
    → totalled group column (along_so_far state query routes) ≡ totalled group column (rows_along state query)
    → AreTotalsOf group column (along_so_far state query (take k routes)) tally → HasTotalsOf state query group column tally
totals-end state query group column routes k tally e same are = record {
  routes = along_so_far state query routes;
  tallied = subst (λ (done : List Along). AreTotalsOf group column done tally) (ap (λ (n : ℕ). along_so_far state query (take n routes)) e ∙ ap (along_so_far state query) (take-length routes)) are;
  same = same;
}

-- ---- what is answered

module _ (state : State) (query : Query) (by : List Name) (summed : Option Name) where
  abbrev with_totals : Result (List Total) Refusal → Result Effect Refusal
  with_totals totals = totals >>= λ totals. Ok (effect (map (total_text (kind_of (world_of state) query)) totals) (length totals) state)

  abbrev with_column : List ℕ → Result (Option ℕ) Refusal → Result Effect Refusal
  with_column group column = column >>= λ column. with_totals (totalled group column (rows_along state query))

  abbrev with_group : Result (List ℕ) Refusal → Result Effect Refusal
  with_group group = group >>= λ group. with_column group (summed_checked (columns_in state query) summed)

  pub total-no-group : (refusal : Refusal) → group_checked (columns_in state query) by ≡ Err refusal → totals_of_query state query by summed ≡ Err refusal
  total-no-group refusal e = ap with_group e

  module _ (group : List ℕ) (grouped : group_checked (columns_in state query) by ≡ Ok group) where
    pub total-no-column : (refusal : Refusal) → summed_checked (columns_in state query) summed ≡ Err refusal → totals_of_query state query by summed ≡ Err refusal
    total-no-column refusal e = ap with_group grouped ∙ ap (with_column group) e

    module _ (column : Option ℕ) (sums : summed_checked (columns_in state query) summed ≡ Ok column) where
      pub total-too-large : (refusal : Refusal) → totalled group column (rows_along state query) ≡ Err refusal → totals_of_query state query by summed ≡ Err refusal
      total-too-large refusal e = ap with_group grouped ∙ ap (with_column group) sums ∙ ap with_totals e

      pub total-answered : (totals : List Total) (rows : List RowText) → totalled group column (rows_along state query) ≡ Ok totals → rows ≡ map (total_text (kind_of (world_of state) query)) totals
          → totals_of_query state query by summed ≡ Ok (effect rows (length rows) state)
      total-answered totals rows e is =
          ap with_group grouped ∙ ap (with_column group) sums ∙ ap with_totals e
          ∙ (λ i. Ok (effect (sym is i) (count i) state))
        where
          count : length totals ≡ length rows
          count = sym (ap length is ∙ length-map totals (total_text (kind_of (world_of state) query)))
