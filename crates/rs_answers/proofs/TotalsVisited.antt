-- Totals along the routes that are looked at are those along all routes.
use Rattle.std.proofs.Common.{◌≡◌, ℕ, List, [], ◌∷◌, ◌++◌, map, flat_map, Option, Some, None, Ok, Err, refl, sym, ap, ◌∙◌}
use Rattle.std.proofs.Math.Path.{fun_ext}
use Rattle.std.specs.FinMap as names
use Rattle.std.specs.List.{filter, list_any, sum_by}
use Rattle.std.specs.Prelude.{if◌then◌else◌}
use Rattle.rs_refusal.specs.declared.refusal.Refusal.TheVariants.{TotalTooLarge}
use Rattle.rs_value.specs.Row.{Row}
use Rattle.rs_facts.specs.Condition.{is_null}
use Rattle.rs_facts.specs.Fact.{Name, RowSet, items, none, thousandths}
use Rattle.rs_facts.specs.Operators.{chosen, datum_at, from_rows}
use Rattle.rs_facts.specs.Totals.{above, below, groups_of, is_of, length_of, over_facts, over_places, passes_limit, total_of, totalled, totals_of, Along, Total}
use Rattle.rs_catalog.specs.Definitions.{Definitions, RouteItem}
use Rattle.rs_plan.specs.declared.plan.Plan.{Plan}
use Rattle.rs_exec.specs.Elsewhere.{HasNothingOn}
use Rattle.rs_total.proofs.SpanSums.{items-none}
use Rattle.rs_total.proofs.Sums.{sum-map, sum-zero}
use Rattle.rs_answers.specs.Routes.{AreVisited}
use Rattle.rs_answers.proofs.PresentLines.{flat_map-map}
use Rattle.rs_answers.proofs.VisitedRoutes.{flat_map-visited, sum-visited}

flat_map-none : {X Y : Type 0} (each : X → List Y) (xs : List X) → ((x : X) → each x ≡ []) → flat_map each xs ≡ []
flat_map-none each [] nothing = refl
flat_map-none each (x ∷ xs) nothing = (λ i. nothing x i ++ flat_map-none each xs nothing i)

-- along a route on which the plan has nothing there are no rows
module _ (definitions : Definitions) (plan : Plan) (routes : List (Name × RouteItem)) (visited : AreVisited definitions plan routes) (along : Name × RouteItem → Along)
    (silent : (entry : Name × RouteItem) → names.get definitions.routes entry.0 ≡ Some entry.1 → HasNothingOn entry.1.number plan → (k : ℕ) → (along entry).places k ≡ none) where
  abbrev some : List Along
  some = map along routes

  abbrev all : List Along
  all = map along (names.entries definitions.routes)

  places-visited : (amount : RowSet → ℕ) → amount none ≡ 0 → over_places amount some ≡ over_places amount all
  unfolding over_places
  places-visited amount zero =
      sum-map amount_along along routes
      ∙ sum-visited definitions plan routes visited (λ entry. amount_along (along entry))
      (λ entry there nothing. sum-zero (λ k. amount ((along entry).places k)) (thousandths (along entry).from (along entry).to) (λ k. ap amount (silent entry there nothing k) ∙ zero))
      ∙ sym (sum-map amount_along along (names.entries definitions.routes))
    where
      amount_along : Along → ℕ
      amount_along route = sum_by (λ k. amount (route.places k)) (thousandths route.from route.to)

  facts-visited : (by : List ℕ) (group : Row) (amount : Row → ℕ) → over_facts by group amount some ≡ over_facts by group amount all
  unfolding over_facts
  facts-visited by group amount =
      places-visited (λ rows. sum_by amount (filter (is_of by group) (items rows))) (ap (λ rows. sum_by amount (filter (is_of by group) rows)) items-none)

  length-visited : (by : List ℕ) (group : Row) → length_of by group some ≡ length_of by group all
  length-visited by group =
      places-visited (λ rows. if list_any (is_of by group) (items rows) then 1 else 0) (ap (λ rows. if list_any (is_of by group) rows then 1 else 0) items-none)

  groups-visited : (by : List ℕ) → groups_of by some ≡ groups_of by all
  unfolding groups_of
  groups-visited by =
      ap (λ rows. items (from_rows rows))
      (flat_map-map along groups_along routes
      ∙ flat_map-visited definitions plan routes visited (λ entry. groups_along (along entry))
      (λ entry there nothing. flat_map-none (λ k. map (chosen by) (items ((along entry).places k))) (thousandths (along entry).from (along entry).to)
      (λ k. ap (λ rows. map (chosen by) (items rows)) (silent entry there nothing k) ∙ ap (map (chosen by)) items-none))
      ∙ sym (flat_map-map along groups_along (names.entries definitions.routes)))
    where
      groups_along : Along → List Row
      groups_along route = flat_map (λ k. map (chosen by) (items (route.places k))) (thousandths route.from route.to)

  total-visited : (by : List ℕ) (column : Option ℕ) (group : Row) → total_of by column some group ≡ total_of by column all group
  total-visited by None group = λ i. record { group = group; places = length-visited by group i; sum = None }
  total-visited by (Some column) group = λ i. record {
    group = group;
    places = length-visited by group i;
    sum = Some (record {
      weight = facts-visited by group (λ row. if is_null (datum_at row column) then 0 else 1) i;
      above_zero = facts-visited by group (λ row. above (datum_at row column)) i;
      below_zero = facts-visited by group (λ row. below (datum_at row column)) i;
    });
  }

  pub totalled-visited : (by : List ℕ) (column : Option ℕ) → totalled by column some ≡ totalled by column all
  totalled-visited by column = ap (λ (totals : List Total). if list_any (λ (total : Total). passes_limit total.sum) totals then Err TotalTooLarge else Ok totals) totals-visited
    where
      totals-visited : totals_of by column some ≡ totals_of by column all
      totals-visited = λ i. map (fun_ext (total-visited by column) i) (groups-visited by i)
