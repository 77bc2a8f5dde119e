-- Routes that are found by their names and by their numbers, and pieces that lie on them.
use Rattle.std.proofs.Common.{◌≡◌, ◌<◌, ◌≤◌, ℕ, List, length, map, get_or, Some, sym, ap, subst, ◌∙◌, arith}
use Rattle.std.specs.Prelude.{Contains, ◌≢◌}
use Rattle.std.specs.List.{AllByRecursion}
use Rattle.std.specs.FinMap as names
use Rattle.std.proofs.lemmas.List.{get_or-map, length-map}
use Rattle.std.proofs.lemmas.List.Elements.{All-from_recursion, All-contains}
use Rattle.std.proofs.lemmas.Option.{same_Some}
use Rattle.std.proofs.lemmas.Simd.{map-map}
use Rattle.rs_facts.specs.Query.{RouteEnds}
use Rattle.rs_facts.specs.WellFormed.{IsPieceOn}
use Rattle.rs_machine.specs.declared.limits.TheConstants.{ROUTES}
use Rattle.rs_page_owners.specs.Counts.{times}
use Rattle.rs_catalog_pages.specs.Items.{PieceItem, RouteItem}
use Rattle.rs_catalog_pages.specs.Said.{said_piece, said_route}
use Rattle.rs_catalog_pages.specs.declared.items.StoredPiece.{StoredPiece}
use Rattle.rs_catalog_pages.specs.declared.items.StoredRoute.{StoredRoute}
use Rattle.rs_catalog_meaning.specs.Meaning.{AreRoutes, IsPiece, ends_of, named_piece, route_numbers, routes_of}
use Rattle.rs_catalog_meaning.specs.Places.{AreGivenOnce, LiesOn}
use Rattle.rs_catalog_meaning.proofs.Each.{each_said, said_each}
use Rattle.rs_catalog_meaning.proofs.NameOrder.{sorted_values}
use Rattle.rs_catalog_meaning.proofs.PlaceLaws.{same_by_number}
use Rattle.rs_catalog_meaning.proofs.UnderNames.{under_name}

-- ---- by their numbers

abbrev pub stored_numbers : List StoredRoute → List ℕ
stored_numbers = map (λ (route : StoredRoute). route.number)

-- the number of a route that was read
pub number_read : (routes : List StoredRoute) (i : ℕ) (route : StoredRoute) → i < length routes → route ≡ get_or routes i route
    → (i < length (stored_numbers routes)) × (get_or (stored_numbers routes) i 0 ≡ route.number)
number_read routes i route inside is = (
  omega (arith, inside, length-map routes (λ (r : StoredRoute). r.number)),
  get_or-map (λ (r : StoredRoute). r.number) routes i route 0 inside ∙ ap (λ (r : StoredRoute). r.number) (sym is),
)

said_numbers : (routes : List StoredRoute) → route_numbers (map said_route routes) ≡ stored_numbers routes
said_numbers routes = map-map (λ (route : RouteItem). route.number) said_route routes

pub numbers_below : (routes : List StoredRoute) → AreGivenOnce (stored_numbers routes) → AllByRecursion (λ (route : RouteItem). route.number < ROUTES) (map said_route routes)
numbers_below routes once =
    each_said said_route (λ (route : RouteItem). route.number < ROUTES) routes (said_each (λ (route : StoredRoute). route.number) (λ n. n < ROUTES) routes once.below)

pub numbers_once : (routes : List StoredRoute) → AreGivenOnce (stored_numbers routes) → (n : ℕ) → times (route_numbers (map said_route routes)) n ≤ 1
numbers_once routes once n = subst (λ numbers. times numbers n ≤ 1) (sym (said_numbers routes)) (once.once n)

pub given_once : (routes : List StoredRoute) → AreRoutes (map said_route routes) → AreGivenOnce (stored_numbers routes)
given_once routes are = record {
  below = each_said (λ (route : StoredRoute). route.number) (λ n. n < ROUTES) routes (said_each said_route (λ (route : RouteItem). route.number < ROUTES) routes are.numbers_below);
  once = λ n. subst (λ numbers. times numbers n ≤ 1) (said_numbers routes) (are.numbers_once n);
}

-- one route has a number
pub same_route : (routes : List RouteItem) (one other : RouteItem) → Contains routes one → Contains routes other → one.number ≡ other.number
    → ((n : ℕ) → times (route_numbers routes) n ≤ 1) → one ≡ other
same_route = same_by_number (λ (route : RouteItem). route.number)

contains_said : (routes : List StoredRoute) (route : StoredRoute) → Contains routes route → Contains (map said_route routes) (said_route route)
contains_said routes route there = (
  there.0,
  omega (arith, there.1, length-map routes said_route),
  get_or-map said_route routes there.0 route (said_route route) there.1 ∙ ap said_route there.2,
)

-- ---- by their names

named : (routes : List RouteItem) (route : RouteItem) → AreRoutes routes → Contains routes route → names.get (routes_of routes) route.name ≡ Some (ends_of route)
named routes route are there =
    under_name (λ (r : RouteItem). (r.name, ends_of r)) routes route (sorted_values (λ (r : RouteItem). r.name) ends_of routes ∙ are.in_order) there

-- ---- pieces

pieces : (routes : List RouteItem) (first second : RouteItem) (piece : PieceItem) → AreRoutes routes → Contains routes first → Contains routes second
    → LiesOn piece (ends_of first) (ends_of second) → IsPieceOn (routes_of routes) (named_piece first.name second.name piece)
pieces routes first second piece are one other lies = record {
  first = ends_of first;
  second = ends_of second;
  first_there = named routes first are one;
  second_there = named routes second are other;
  from_start = lies.from_start;
  some = lies.some;
  upto_finish = lies.upto_finish;
  onto_start = lies.onto_start;
  onto_finish = lies.onto_finish;
}

pub lying : (routes : List RouteItem) (first second : RouteItem) (piece : PieceItem) → AreRoutes routes → Contains routes first → Contains routes second
    → IsPieceOn (routes_of routes) (named_piece first.name second.name piece) → LiesOn piece (ends_of first) (ends_of second)
lying routes first second piece are one other is =
    let a : is.first ≡ ends_of first = same_Some is.first (ends_of first) (sym is.first_there ∙ named routes first are one) in
    let b : is.second ≡ ends_of second = same_Some is.second (ends_of second) (sym is.second_there ∙ named routes second are other) in
    let told : LiesOn piece is.first is.second = record {
      from_start = is.from_start;
      some = is.some;
      upto_finish = is.upto_finish;
      onto_start = is.onto_start;
      onto_finish = is.onto_finish;
    } in
    subst (λ (ends : RouteEnds). LiesOn piece (ends_of first) ends) b (subst (λ (ends : RouteEnds). LiesOn piece ends is.second) a told)

module _ (routes : List StoredRoute) (piece : StoredPiece) where
  abbrev MeantPiece : Type 0
  MeantPiece = IsPiece (map said_route routes) (said_piece piece)

  pub piece_lies : AreRoutes (map said_route routes) → (first second : StoredRoute) → Contains routes first → first.number ≡ piece.from_route → Contains routes second
      → second.number ≡ piece.onto_route → LiesOn (said_piece piece) (ends_of (said_route first)) (ends_of (said_route second)) → MeantPiece
  piece_lies are first second one number other onto lies = record {
    first = said_route first;
    first_there = contains_said routes first one;
    first_number = number;
    second = said_route second;
    second_there = contains_said routes second other;
    second_number = onto;
    lies = pieces (map said_route routes) (said_route first) (said_route second) (said_piece piece) are (contains_said routes first one) (contains_said routes second other) lies;
  }

  pub lies_piece : AreRoutes (map said_route routes) → (first second : StoredRoute) → Contains routes first → first.number ≡ piece.from_route → Contains routes second
      → second.number ≡ piece.onto_route → MeantPiece → LiesOn (said_piece piece) (ends_of (said_route first)) (ends_of (said_route second))
  lies_piece are first second one number other onto is =
      let all = map said_route routes in
      let a = same_route all is.first (said_route first) is.first_there (contains_said routes first one) (is.first_number ∙ sym number) are.numbers_once in
      let b = same_route all is.second (said_route second) is.second_there (contains_said routes second other) (is.second_number ∙ sym onto) are.numbers_once in
      subst (λ (r : RouteItem). LiesOn (said_piece piece) (ends_of (said_route first)) (ends_of r)) b
      (subst (λ (r : RouteItem). LiesOn (said_piece piece) (ends_of r) (ends_of is.second)) a
      (lying all is.first is.second (said_piece piece) are is.first_there is.second_there is.lies))

  no_route : (n : ℕ) → AllByRecursion (λ (route : StoredRoute). route.number ≢ n) routes → (route : RouteItem) → Contains (map said_route routes) route → route.number ≢ n
  no_route n none route there =
      All-contains (λ (r : RouteItem). r.number ≢ n) (map said_route routes) route
      (All-from_recursion (λ (r : RouteItem). r.number ≢ n) (map said_route routes) (each_said said_route (λ (r : RouteItem). r.number ≢ n) routes none)) there

  pub no_first : AllByRecursion (λ (route : StoredRoute). route.number ≢ piece.from_route) routes → MeantPiece → ⊥
  no_first none is = no_route piece.from_route none is.first is.first_there is.first_number

  pub no_second : AllByRecursion (λ (route : StoredRoute). route.number ≢ piece.onto_route) routes → MeantPiece → ⊥
  no_second none is = no_route piece.onto_route none is.second is.second_there is.second_number
