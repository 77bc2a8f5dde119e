-- Lines of a route that are given from a place on, or kept after them.
use Rattle.std.proofs.Common.{◌≡◌, ◌+◌, ◌-◌, ◌<◌, ◌≤◌, ℕ, inl, inr, List, Some, ◌++◌, ap, arith, drop, get_or, length, map, refl, subst, sym, take, ◌∙◌}
use Rattle.std.proofs.lemmas.Option.{get_or_from_slice_get, slice_get_read, slice_get_within}
use Rattle.std.proofs.lemmas.Bool.{cases_lt}
use Rattle.std.specs.List.{slice_get}
use Rattle.std.specs.FinMap as names
use Rattle.rs_answers.proofs.NamedRoutes.{route-there}
use Rattle.rs_answers.proofs.Starts.{start-drop, start-first}
use Rattle.rs_answers.specs.Portions.{IsStart}
use Rattle.rs_answers.specs.Routes.{entry_of}
use Rattle.rs_answers.specs.Versions.{SeenVersion, lines_seen_on}
use Rattle.rs_catalog.specs.declared.entries.NamedRoute.{NamedRoute}
use Rattle.rs_catalog.specs.Definitions.{RouteItem}
use Rattle.rs_cursor.proofs.NextLines.{lines_from, lines-step, listed-at}
use Rattle.rs_cursor.specs.Kept.{AreLinesAt, GivesFrom, IsRouteAt}
use Rattle.rs_cursor.specs.declared.place.Place.{Place}
use Rattle.rs_facts.specs.Fact.{Name}
use Rattle.rs_machine.specs.State.{RowText}
use Rattle.rs_methods.specs.declared.position.Method.{Method}
use Rattle.rs_plan.specs.declared.plan.Plan.{Plan}

-- ---- the route at a place

pub route-at : (shown : SeenVersion) (routes : List NamedRoute) (k : ℕ) (one : NamedRoute) → map entry_of routes ≡ names.entries shown.routes → k < length routes → one ≡ get_or routes k one
    → IsRouteAt shown k one
route-at shown routes k one listed within is =
    let at = listed-at routes (names.entries shown.routes) k one listed within is in
    record {
      there = slice_get_read (names.entries shown.routes) (length (names.entries shown.routes)) k (entry_of one) refl at.0 at.1;
      shown = route-there shown.routes routes k one within is listed;
    }

-- ---- what is given

-- lines of the route at the place are given, and the next place is after them
pub route-gives : (each : Name × RouteItem → List RowText) (entries : List (Name × RouteItem)) (place next : Place) (on : Name × RouteItem) (most all : ℕ) (old new : List RowText)
    → slice_get entries place.route ≡ Some on → all ≡ length (each on)
    → (place.given + most < all → next ≡ record place { given = place.given + most })
    → (all ≤ place.given + most → next ≡ record { route = place.route + 1; given = place.given - all })
    → new ≡ old ++ take most (drop place.given (each on)) → GivesFrom (lines_from each entries place) (lines_from each entries next) old new
route-gives each entries place next on most all old new there counts stays moves_on gives = record {
  given = take most (drop place.given (each on));
  parts =
      lines-step each entries place on (slice_get_within entries place.route on there) (sym (get_or_from_slice_get entries place.route on on there))
      most all next counts stays moves_on;
  gives = gives;
}

module _ (seen : SeenVersion) (plan : Plan) (method : Method) where
  -- the first of the lines that are kept are given
  pub kept-gives : (place next : Place) (most all : ℕ) (lines old new : List RowText) → most ≤ length lines
      → (place.given + most < all → next ≡ record place { given = place.given + most })
      → (all ≤ place.given + most → next ≡ record { route = place.route + 1; given = place.given - all })
      → new ≡ old ++ take most lines → AreLinesAt seen plan method place all lines
      → GivesFrom (lines_from (lines_seen_on seen plan method) (names.entries seen.routes) place) (lines_from (lines_seen_on seen plan method) (names.entries seen.routes) next) old new
  kept-gives place next most all lines old new few stays moves_on gives are =
      route-gives (lines_seen_on seen plan method) (names.entries seen.routes) place next are.route most all old new are.there are.counts stays moves_on
      (gives ∙ ap (λ l. old ++ l) (start-first lines (drop place.given (lines_seen_on seen plan method are.route)) most few are.starts))

  -- ---- what is kept

  -- of lines that are kept, those from a later place on
  pub kept-later : (from place : Place) (all : ℕ) (lines : List RowText) → place.route ≡ from.route → from.given ≤ place.given
      → AreLinesAt seen plan method from all lines → AreLinesAt seen plan method place all (drop (place.given - from.given) lines)
  kept-later from place all lines same past are =
      let split : from.given + (place.given - from.given) ≡ place.given = omega arith in
      let seen_there = lines_seen_on seen plan method are.route in
      record {
        route = are.route;
        there = ap (slice_get (names.entries seen.routes)) same ∙ are.there;
        counts = are.counts;
        starts = subst (λ n. IsStart (drop (place.given - from.given) lines) (drop n seen_there)) split (start-drop lines seen_there (place.given - from.given) from.given are.starts);
      }

  -- lines that are formed ahead, where the next place is on the same route
  pub kept-ahead : (place next : Place) (named : NamedRoute) (most all : ℕ) (ahead : List RowText) → IsRouteAt seen place.route named
      → all ≡ length (lines_seen_on seen plan method (entry_of named))
      → (place.given + most < all → next ≡ record place { given = place.given + most })
      → (all ≤ place.given + most → next ≡ record { route = place.route + 1; given = place.given - all })
      → next.route ≡ place.route
      → IsStart ahead (drop (place.given + most) (lines_seen_on seen plan method (entry_of named))) → AreLinesAt seen plan method next all ahead
  kept-ahead place next named most all ahead at counts stays moves_on same starts = record {
    route = entry_of named;
    there = ap (slice_get (names.entries seen.routes)) same ∙ at.there;
    counts = counts;
    starts = elim (cases_lt (place.given + most) all) [
      | inl some ↦ subst (λ (to : Place). IsStart ahead (drop to.given (lines_seen_on seen plan method (entry_of named)))) (sym (stays some)) starts
      | inr none ↦ (let moved : next.route ≡ place.route + 1 = ap (λ (to : Place). to.route) (moves_on none) in absurd (omega arith))
    ];
  }
