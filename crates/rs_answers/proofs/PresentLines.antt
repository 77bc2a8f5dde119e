-- The version that has the definitions, the referents and the rows of a state shows the machine's lines of a query.
use Rattle.std.proofs.Common.{◌≡◌, ◌+◌, ℕ, List, [], ◌∷◌, ◌++◌, map, flat_map, Some, refl, sym, ap, subst, ◌∙◌}
use Rattle.std.proofs.Math.Path.{fun_ext}
use Rattle.std.specs.List.{AllByRecursion}
use Rattle.std.specs.FinMap as names
use Rattle.rs_catalog.proofs.Names.{each_entry, entries-map_values}
use Rattle.rs_catalog.specs.Definitions.{Definitions, Numbered, RouteItem}
use Rattle.rs_catalog.specs.Referents.{HeldReferents, referents_on}
use Rattle.rs_exec.specs.Meaning.{kind_in, rows_in}
use Rattle.rs_exec.specs.Snapshot.{Snapshot}
use Rattle.rs_facts.specs.Fact.{Name, Names, Places}
use Rattle.rs_facts.specs.LineText.{line_of}
use Rattle.rs_facts.specs.Query.{Query, RouteEnds, kind_of, rows_at}
use Rattle.rs_facts.specs.Runs.{runs_of}
use Rattle.rs_machine.specs.State.{RowText, State, world_of}
use Rattle.rs_machine.specs.Step.{lines_of, lines_on, printed_runs}
use Rattle.rs_methods.specs.Position.{expression_at, expression_text}
use Rattle.rs_methods.specs.declared.position.Method.{Method}
use Rattle.rs_plan.specs.declared.plan.Plan.{Plan}
use Rattle.rs_value.specs.declared.column.Kind.{Kind}
use Rattle.rs_answers.specs.Plans.{HasRowsOfQuery, IsPlanFor}
use Rattle.rs_answers.specs.Present.{IsPresent}
use Rattle.rs_answers.specs.Shown.{HasDefinitions}
use Rattle.rs_answers.specs.Versions.{LiesOnRoutes, SeenVersion, lines_seen, lines_seen_on, position_seen}
use Rattle.rs_answers.proofs.QueryRuns.{HoldOn, RowsLieOnRoutes, query-holds, within-holds}
use Rattle.rs_answers.proofs.States.{referents-at, route-at, routes-are}

-- ---- the lines of all routes

pub flat_map-map : {X Y Z : Type 0} (change : X → Y) (each : Y → List Z) (xs : List X) → flat_map each (map change xs) ≡ flat_map (λ x. each (change x)) xs
flat_map-map change each [] = refl
flat_map-map change each (x ∷ xs) = ap (λ rest. each (change x) ++ rest) (flat_map-map change each xs)

flat_map-same : {X : Type 0} (P : X → Type 0) (one other : X → List RowText) → ((x : X) → P x → one x ≡ other x) → (xs : List X) → AllByRecursion P xs → flat_map one xs ≡ flat_map other xs
flat_map-same P one other same [] all = refl
flat_map-same P one other same (x ∷ xs) all = (λ i. same x all.0 i ++ flat_map-same P one other same xs all.1 i)

module _ (definitions : Definitions) (referents : Numbered HeldReferents) (state : State) where
  module _ (query : Query) (method : Method) where
    -- the routes of the definitions are those of the state
    pub lines-of_entries : (snapshot : Snapshot) → IsPresent definitions referents state snapshot
        → flat_map (λ (e : Name × RouteItem). lines_on state query method e.0 e.1.ends) (names.entries definitions.routes) ≡ lines_of state query method
    lines-of_entries snapshot present =
        let ends : Name × RouteItem → Name × RouteEnds = λ e. (e.0, e.1.ends) in
        let each : Name × RouteEnds → List RowText = λ e. lines_on state query method e.0 e.1 in
        sym (flat_map-map ends each (names.entries definitions.routes))
        ∙ ap (flat_map each) (sym (entries-map_values (λ (item : RouteItem). item.ends) definitions.routes))
        ∙ ap (λ (routes : Names RouteEnds). flat_map each (names.entries routes)) (sym (routes-are definitions (referents_on referents) state present.defined))

  -- ---- a plan for the query, at a version that shows the state

  module _ (rows-lie : RowsLieOnRoutes) (shown : SeenVersion) (has : HasDefinitions definitions (referents_on referents) shown) (present : IsPresent definitions referents state shown.snapshot)
      (query : Query) (plan : Plan) (for : IsPlanFor definitions query plan) where
    means : HasRowsOfQuery definitions query plan state shown.snapshot
    means = for.means referents state shown.snapshot present

    abbrev kind : Kind
    kind = kind_of (world_of state) query

    module _ (route : Name) (on : RouteItem) (there : names.get definitions.routes route ≡ Some on) where
      places-are : rows_in plan shown.snapshot on.number ≡ rows_at (world_of state) query route
      places-are = fun_ext (means.rows route on there)

      plan-holds : HoldOn (kind_in plan) on.ends (rows_in plan shown.snapshot on.number)
      plan-holds =
          subst (λ (k : Kind). HoldOn k on.ends (rows_in plan shown.snapshot on.number)) (sym means.kind)
          (subst (λ (places : Places). HoldOn kind on.ends places) (sym places-are)
          (query-holds rows-lie state present.lawful query means.formed route on.ends (route-at definitions (referents_on referents) state present.defined route on there)))

      pub lines-there : (method : Method) → lines_seen_on shown plan method (route, on) ≡ lines_on state query method route on.ends
      lines-there method =
          ap (λ (k : Kind). map (line_of (position_seen shown on method) k route) (runs_of k (rows_in plan shown.snapshot on.number) on.ends.start (on.ends.finish + 1))) means.kind
          ∙ ap (λ (places : Places). map (line_of (position_seen shown on method) kind route) (runs_of kind places on.ends.start (on.ends.finish + 1))) places-are
          ∙ ap (λ (referents : Names ℕ). map (line_of (λ k. expression_text (expression_at on.ends.start on.ends.finish (names.entries referents) method k)) kind route) (printed_runs state query route on.ends))
          (has.referents on.number ∙ sym (referents-at definitions (referents_on referents) state present.defined route on there))

    pub plan-lies : LiesOnRoutes shown plan
    plan-lies = record {
      each = λ route on there.
          within-holds (kind_in plan) on.ends (rows_in plan shown.snapshot on.number)
          (plan-holds route on (ap (λ (routes : Names RouteItem). names.get routes route) (sym has.routes) ∙ there));
    }

    pub lines-present : (method : Method) → lines_seen shown plan method (names.entries shown.routes) ≡ lines_of state query method
    lines-present method =
        ap (λ (routes : Names RouteItem). lines_seen shown plan method (names.entries routes)) has.routes
        ∙ flat_map-same (λ (e : Name × RouteItem). names.get definitions.routes e.0 ≡ Some e.1) (lines_seen_on shown plan method) (λ (e : Name × RouteItem). lines_on state query method e.0 e.1.ends)
        (λ e there. lines-there e.0 e.1 there method) (names.entries definitions.routes) (each_entry definitions.routes)
        ∙ lines-of_entries query method shown.snapshot present
