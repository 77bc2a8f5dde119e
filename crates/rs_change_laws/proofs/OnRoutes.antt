-- Events that lie on routes, told event by event, and by the spans on each route.
use Rattle.std.proofs.Common.{◌≡◌, ◌≤◌, ◌==◌, ◌∙◌, ℕ, zero, suc, Some, List, [], ◌∷◌, ◌++◌, length, map, filter, refl, sym, ap, subst, arith}
use Rattle.std.specs.Prelude.{Contains, slice_get}
use Rattle.std.specs.List.{AllByRecursion}
use Rattle.std.specs.List.Sorted.{IsPermutation}
use Rattle.std.proofs.lemmas.Bool.{and_from, and_parts, eq-eqb, eqb-true}
use Rattle.std.proofs.lemmas.List.Elements.{All-contains, All-from_recursion, Contains-append_right, recursion_from_All}
use Rattle.std.proofs.lemmas.List.Sorted.{All-permutation}
use Rattle.rs_catalog.specs.Events.{behind}
use Rattle.rs_catalog_meaning.specs.Meaning.{ends_of}
use Rattle.rs_catalog_pages.specs.Items.{RouteItem}
use Rattle.rs_facts.specs.Runs.{Stretch}
use Rattle.rs_file_parts.specs.Meant.{span_of_route}
use Rattle.rs_file_meaning.specs.Seen.{born_by, routes_at}
use Rattle.rs_page_owners.specs.Counts.{times}
use Rattle.rs_spans.specs.Within.{AllLieWithin, LiesWithin}
use Rattle.rs_file_meaning.proofs.Named.{first_there, later_there}
use Rattle.rs_file_meaning.proofs.Picked.{each_kept, kept_in, kept_passes, kept_there, same_numbered, shown_there, source_of}
use Rattle.rs_value.specs.declared.column.Kind.{Kind}
use Rattle.rs_value.specs.declared.column.Kind.TheVariants.{Line, Point}
use Rattle.rs_versioned.specs.Events.{Event, is_on, sees_event, span_of, spans_at}
use Rattle.rs_versioned.specs.Meant.{HasRoute, IsSpanOf, LieOnRoutes, bound_of}
use Rattle.rs_versioned.specs.declared.route_span.RouteSpan.{RouteSpan}

-- ---- lists

pub each_of : {X : Type 0} (P : X → Type 0) (xs : List X) → ((x : X) → Contains xs x → P x) → AllByRecursion P xs
each_of P [] gives = tt
each_of P (x ∷ xs) gives = (gives x (first_there x xs), each_of P xs (λ y there. gives y (later_there x y xs there)))

pub each_at : {X : Type 0} (P : X → Type 0) (xs : List X) (x : X) → AllByRecursion P xs → Contains xs x → P x
each_at P xs x all there = All-contains P xs x (All-from_recursion P xs all) there

pub each_moved : {X : Type 0} (P : X → Type 0) (xs ys : List X) → IsPermutation xs ys → AllByRecursion P xs → AllByRecursion P ys
each_moved P xs ys moved all = recursion_from_All P ys (All-permutation P xs ys moved (All-from_recursion P xs all))

-- the one at this place has this number
pub record StandsAt {X : Type 0} (number_of : X → ℕ) (xs : List X) (place number : ℕ) : Type 0 where
  pub first : List X
  pub item : X
  pub last : List X
  pub are : xs ≡ first ++ item ∷ last
  pub long : length first ≡ place
  pub numbered : number_of item ≡ number

pub stands_at : {X : Type 0} (number_of : X → ℕ) (xs : List X) (place number : ℕ) → slice_get (map number_of xs) place ≡ Some number → StandsAt number_of xs place number
stands_at number_of [] place number is = absurd (cc)
stands_at number_of (x ∷ xs) zero number is = record { first = []; item = x; last = xs; are = refl; long = refl; numbered = cc }
stands_at number_of (x ∷ xs) (suc place) number is =
    let rest = stands_at number_of xs place number is in
    record { first = x ∷ rest.first; item = rest.item; last = rest.last; are = ap (λ l. x ∷ l) rest.are; long = ap (λ n. suc n) rest.long; numbered = rest.numbered }

pub among : {X : Type 0} (xs first : List X) (x : X) (last : List X) → xs ≡ first ++ x ∷ last → Contains xs x
among xs first x last are = subst (λ l. Contains l x) (sym are) (Contains-append_right first (x ∷ last) x (first_there x last))

-- ---- events and spans

module _ (routes : List RouteSpan) (kind : Kind) where
  -- the span lies on the route with this number
  abbrev pub LiesOn : ℕ → Stretch → Type 0
  LiesOn route span = HasRoute routes route (IsSpanOf kind span)

  module _ (version : ℕ) (events : List Event) where
    pub by_route : LieOnRoutes routes kind version events → (route : ℕ) → AllByRecursion (LiesOn route) (spans_at version route events)
    by_route lie route = each_of (LiesOn route) (spans_at version route events) (λ span there.
        let from = source_of span_of (filter (is_on version route) events) span there in
        let passes = and_parts (from.source.route == route) (sees_event version from.source) (kept_passes (is_on version route) events from.source from.there) in
        let lies = each_kept (sees_event version) (λ (event : Event). LiesOn event.route (span_of event)) events from.source lie (kept_there (is_on version route) events from.source from.there) passes.1 in
        subst (LiesOn route) from.is (subst (λ (n : ℕ). LiesOn n (span_of from.source)) (eqb-true from.source.route route passes.0) lies))

    pub of_routes : ((route : ℕ) → AllByRecursion (LiesOn route) (spans_at version route events)) → LieOnRoutes routes kind version events
    of_routes lie = each_of (λ (event : Event). LiesOn event.route (span_of event)) (filter (sees_event version) events) (λ event there.
        let passes = and_from (event.route == event.route) (sees_event version event) (eq-eqb event.route event.route refl) (kept_passes (sees_event version) events event there) in
        let inside = kept_in (is_on version event.route) events event (kept_there (sees_event version) events event there) passes in
        each_at (LiesOn event.route) (spans_at version event.route events) (span_of event) (lie event.route) (shown_there span_of (filter (is_on version event.route) events) event inside))

-- ---- the ends of a route

pub bound_is : (kind : Kind) (route : RouteItem) → behind kind (ends_of route) ≡ bound_of kind (span_of_route route)
bound_is Line route = refl
bound_is Point route = omega arith

module _ (kind : Kind) (version : ℕ) (items : List RouteItem) (once : (number : ℕ) → times (map (λ (route : RouteItem). route.number) items) number ≤ 1)
    (born : born_by version items ≡ items) (route : RouteItem) (there : Contains items route) where
  abbrev routes : List RouteSpan
  routes = routes_at version items

  abbrev Within : Stretch → Type 0
  Within = LiesWithin route.start (bound_of kind (span_of_route route))

  pub within_ends : (spans : List Stretch) → AllByRecursion (LiesOn routes kind route.number) spans → AllLieWithin route.start (bound_of kind (span_of_route route)) spans
  within_ends spans lie = each_of Within spans (λ span inside.
      let on = each_at (LiesOn routes kind route.number) spans span lie inside in
      let from = source_of span_of_route (born_by version items) on.route on.there in
      let same = same_numbered (λ (route : RouteItem). route.number) items from.source route (subst (λ l. Contains l from.source) born from.there) there
      (ap (λ (span : RouteSpan). span.number) from.is ∙ on.numbered) (once from.source.number) in
      let lies = subst (IsSpanOf kind span) (sym from.is ∙ ap span_of_route same) on.is_so in
      record { from = lies.0; upto = lies.1 })

  pub on_route : (spans : List Stretch) → AllLieWithin route.start (bound_of kind (span_of_route route)) spans → AllByRecursion (LiesOn routes kind route.number) spans
  on_route spans within = each_of (LiesOn routes kind route.number) spans (λ span inside.
      let lies = each_at Within spans span within inside in
      record {
        route = span_of_route route;
        there = shown_there span_of_route (born_by version items) route (subst (λ l. Contains l route) (sym born) there);
        numbered = refl;
        is_so = (lies.from, lies.upto);
      })
