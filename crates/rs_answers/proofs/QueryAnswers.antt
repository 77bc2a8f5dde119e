-- The lines of a query, on one route and on all.
use Rattle.std.proofs.Common.{◌≡◌, ℕ, ◌+◌, ◌<◌, List, [], ◌∷◌, ◌++◌, map, flat_map, length, take, get_or, append-nil, Some, refl, sym, ap, subst, ◌∙◌}
use Rattle.std.proofs.Math.Path.{fun_ext}
use Rattle.std.proofs.lemmas.List.{take_more}
use Rattle.std.proofs.Math.Seq.{take-length}
use Rattle.std.proofs.lemmas.Grind.{flat_map-append}
use Rattle.std.specs.FinMap as names
use Rattle.rs_methods.specs.declared.position.Method.{Method}
use Rattle.rs_value.specs.declared.column.Kind.{Kind}
use Rattle.rs_facts.specs.Fact.{Name}
use Rattle.rs_facts.specs.Query.{Query, kind_of, rows_at}
use Rattle.rs_facts.specs.Runs.{Stretch, AreRunsOf}
use Rattle.rs_facts.specs.LineText.{line_of}
use Rattle.rs_machine.specs.State.{State, RowText, world_of}
use Rattle.rs_machine.specs.Step.{lines_on, lines_of, position_text}
use Rattle.rs_catalog.specs.Definitions.{Numbered, RouteItem, Definitions}
use Rattle.rs_catalog.specs.Referents.{HeldReferents, referents_on}
use Rattle.rs_plan.specs.declared.plan.Plan.{Plan}
use Rattle.rs_exec.specs.Snapshot.{Snapshot}
use Rattle.rs_exec.specs.Meaning.{rows_in, kind_in}
use Rattle.rs_catalog.specs.declared.entries.NamedRoute.{NamedRoute}
use Rattle.rs_answers.specs.Routes.{entry_of, AreVisited}
use Rattle.rs_answers.specs.Plans.{IsPlanFor}
use Rattle.rs_answers.specs.Present.{IsPresent}
use Rattle.rs_answers.specs.Printed.{place_on, printed_position}
use Rattle.rs_answers.specs.Shown.{HasDefinitions}
use Rattle.rs_answers.specs.Versions.{SeenVersion}
use Rattle.rs_answers.proofs.NamedRoutes.{one-there}
use Rattle.rs_answers.proofs.PresentLines.{flat_map-map, lines-of_entries, lines-there, plan-lies}
use Rattle.rs_answers.proofs.QueryRuns.{RowsLieOnRoutes, none-printed}
use Rattle.rs_answers.proofs.ShownLines.{lines-printed, lines-shown}
use Rattle.rs_answers.proofs.VisitedRoutes.{flat_map-visited, query-nothing, visited-there}

-- ---- the lines of a planned query on one route

module _ (rows-lie : RowsLieOnRoutes) (definitions : Definitions) (referents : Numbered HeldReferents) (state : State) (snapshot : Snapshot) (present : IsPresent definitions referents state snapshot)
    (query : Query) (plan : Plan) (for : IsPlanFor definitions query plan) (route : Name) (on : RouteItem) (there : names.get definitions.routes route ≡ Some on)
    (runs : List Stretch) (are : AreRunsOf (kind_in plan) (rows_in plan snapshot on.number) runs) where
  -- what the state shows
  abbrev shown : SeenVersion
  shown = record { routes = definitions.routes; referents = referents_on referents; snapshot = snapshot }

  abbrev has : HasDefinitions definitions (referents_on referents) shown
  has = record { routes = refl; referents = λ number. refl }

  module _ (kept : Numbered HeldReferents) (kept-are : kept ≡ referents) (method : Method) where
    abbrev printed : ℕ → RowText
    printed place = printed_position kept on method (place_on on.ends place)

    pub query-lines : (told : Kind) → told ≡ kind_in plan → map (line_of printed told route) runs ≡ lines_on state query method route on.ends
    query-lines told same =
        lines-printed kept shown on (ap (λ (kept : Numbered HeldReferents). referents_on kept on.number) kept-are) method route told (kind_in plan) same runs
        ∙ lines-shown shown plan (plan-lies definitions referents state rows-lie shown has present query plan for) route on there runs are method
        ∙ lines-there definitions referents state rows-lie shown has present query plan for route on there method

-- ---- the lines of a query on all routes

-- those of the routes so far
abbrev pub lines_so_far : State → Query → Method → List NamedRoute → List RowText
lines_so_far state query method routes = flat_map (λ (named : NamedRoute). lines_on state query method named.name.bytes named.route.ends) routes

-- a route on which the plan has nothing has no lines, so the routes that are looked at have all lines
pub lines-all : (definitions : Definitions) (referents : Numbered HeldReferents) (state : State) (snapshot : Snapshot) → IsPresent definitions referents state snapshot
    → (query : Query) (plan : Plan) → IsPlanFor definitions query plan → (method : Method) (routes : List NamedRoute) → AreVisited definitions plan (map entry_of routes)
    → lines_so_far state query method routes ≡ lines_of state query method
lines-all definitions referents state snapshot present query plan for method routes visited =
    let each : Name × RouteItem → List RowText = λ e. lines_on state query method e.0 e.1.ends in
    sym (flat_map-map entry_of each routes)
    ∙ flat_map-visited definitions plan (map entry_of routes) visited each (λ e there nothing.
    ap (map (line_of (position_text state e.0 e.1.ends method) (kind_of (world_of state) query) e.0))
    (none-printed (kind_of (world_of state) query) e.1.ends (rows_at (world_of state) query e.0)
    (fun_ext (query-nothing definitions referents state snapshot present query plan for e.0 e.1 there nothing))))
    ∙ lines-of_entries definitions referents state query method snapshot present

-- one route's lines after those of the routes before it
pub lines-more : (state : State) (query : Query) (method : Method) (routes : List NamedRoute) (k : ℕ) (one : NamedRoute) (old new : List RowText) → k < length routes → one ≡ get_or routes k one
    → old ≡ lines_so_far state query method (take k routes) → new ≡ old ++ lines_on state query method one.name.bytes one.route.ends → new ≡ lines_so_far state query method (take (k + 1) routes)
lines-more state query method routes k one old new h is so adds =
    let each : NamedRoute → List RowText = λ named. lines_on state query method named.name.bytes named.route.ends in
    adds
    ∙ ap (λ l. l ++ each one) so
    ∙ ap (λ l. lines_so_far state query method (take k routes) ++ l) (ap each is ∙ sym (append-nil (each (get_or routes k one))))
    ∙ sym (flat_map-append each (take k routes) (get_or routes k one ∷ []))
    ∙ ap (lines_so_far state query method) (sym (take_more routes k one h))

pub lines-end : (state : State) (query : Query) (method : Method) (routes : List NamedRoute) (k : ℕ) → k ≡ length routes → lines_so_far state query method (take k routes) ≡ lines_so_far state query method routes
lines-end state query method routes k e = ap (λ (n : ℕ). lines_so_far state query method (take n routes)) e ∙ ap (lines_so_far state query method) (take-length routes)

-- each of them is there in definitions that are the same
pub named-there : (definitions later : Definitions) → later ≡ definitions → (plan : Plan) (routes : List NamedRoute) (k : ℕ) (one : NamedRoute) → k < length routes → one ≡ get_or routes k one
    → AreVisited definitions plan (map entry_of routes) → names.get later.routes one.name.bytes ≡ Some one.route
named-there definitions later same plan routes k one h is visited =
    ap (λ (d : Definitions). names.get d.routes one.name.bytes) same ∙ one-there definitions.routes routes k one h is (visited-there definitions plan (map entry_of routes) visited)

-- they are the routes that are looked at by the catalogue's definitions
pub visited-in : (definitions kept : Definitions) → kept ≡ definitions → (plan : Plan) (routes listed : List NamedRoute) → listed ≡ routes → AreVisited kept plan (map entry_of routes)
    → AreVisited definitions plan (map entry_of listed)
visited-in definitions kept same plan routes listed is visited =
    subst (λ (rs : List NamedRoute). AreVisited definitions plan (map entry_of rs)) (sym is) (subst (λ (d : Definitions). AreVisited d plan (map entry_of routes)) same visited)
