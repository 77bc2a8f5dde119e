-- The tests together.
use Rattle.std.proofs.Common.{◌≡◌, ◌≤◌, Bool, List, true, length, map, sym, ◌∙◌, arith}
use Rattle.std.specs.Prelude.{string_bytes}
use Rattle.std.specs.List.{AllByRecursion}
use Rattle.std.proofs.lemmas.Bool.{false≢true, leb-true}
use Rattle.rs_machine.specs.Lawful.{IsRoute}
use Rattle.rs_machine.specs.declared.limits.TheConstants.{ROUTES}
use Rattle.rs_catalog_pages.specs.Items.{RouteItem}
use Rattle.rs_catalog_pages.specs.Said.{said_route}
use Rattle.rs_catalog_pages.specs.declared.items.StoredRoute.{StoredRoute}
use Rattle.rs_catalog_meaning.specs.Meaning.{ends_of}
use Rattle.rs_catalog_meaning.proofs.Each.{few_said, said_few}
use Rattle.rs_catalog_meaning.proofs.NameOrder.{in_order, rises_said, said_rises}
use Rattle.rs_catalog_meaning.proofs.PlaceLaws.{once_if_placed, placed_if_once}
use Rattle.rs_catalog_meaning.proofs.RouteLaws.{given_once, numbers_below, numbers_once, stored_numbers}
use Rattle.rs_catalog_meaning.proofs.routes.are_routes.Goals as goal
use Rattle.rs_catalog_meaning.proofs.routes.are_routes.Goals.{then-routes-le-ROUTES, else-routes-le-ROUTES, then-are_in_order, else-are_in_order}

abbrev AreSo : List StoredRoute → Type 0
AreSo routes = AllByRecursion (λ (route : RouteItem). IsRoute route.name (ends_of route)) (map said_route routes)

abbrev order : List StoredRoute → Bool
order routes = in_order (λ (route : StoredRoute). string_bytes route.name.value) routes

pub returns-then-is_each_route : goal.returns-then-is_each_route
returns-then-is_each_route c =
    let routes = c.args.routes.now in
    let front : (length routes ≤ ROUTES) × (order routes ≡ true) × AreSo routes =
    elim c.if-are_in_order.branch [
      | then-are_in_order v ↦ elim c.if-routes-le-ROUTES.branch [
        | then-routes-le-ROUTES w ↦ (
          w.if-routes-le-ROUTES.true,
          w.are_in_order.ensures.0 (sym w.value-is ∙ v.if-are_in_order.true),
          v.is_each_route.ensures.0 (sym v.value-is ∙ c.if-is_each_route.true),
        )
        | else-routes-le-ROUTES w ↦ absurd (omega (arith, w.if-routes-le-ROUTES.false, leb-true (length routes) ROUTES (sym w.value-is ∙ v.if-are_in_order.true)))
      ]
      | else-are_in_order v ↦ absurd (false≢true (sym v.if-are_in_order.false ∙ sym v.value-is ∙ c.if-is_each_route.true))
    ] in (
      λ e.
          let once = once_if_placed (stored_numbers routes) c.places_of.result c.places_of.ensures.places (sym c.is_some.ensures ∙ e) in
          record {
            in_order = rises_said said_route (λ (route : RouteItem). route.name) routes front.1;
            each = front.2;
            few = few_said said_route routes ROUTES front.0;
            numbers_below = numbers_below routes once;
            numbers_once = numbers_once routes once;
          },
      λ are. c.is_some.ensures ∙ placed_if_once (stored_numbers routes) c.places_of.result c.places_of.ensures.none (given_once routes are),
    )

pub returns-else-is_each_route : goal.returns-else-is_each_route
returns-else-is_each_route c =
    let routes = c.args.routes.now in (
      λ e. absurd (false≢true (sym c.if-is_each_route.false ∙ e)),
      λ are. elim c.if-are_in_order.branch [
        | then-are_in_order v ↦ v.value-is ∙ v.is_each_route.ensures.1 are.each
        | else-are_in_order v ↦ elim c.if-routes-le-ROUTES.branch [
          | then-routes-le-ROUTES w ↦
              absurd (false≢true (sym v.if-are_in_order.false ∙ w.value-is ∙ w.are_in_order.ensures.1 (said_rises said_route (λ (route : RouteItem). route.name) routes are.in_order)))
          | else-routes-le-ROUTES w ↦ absurd (omega (arith, w.if-routes-le-ROUTES.false, said_few said_route routes ROUTES are.few))
        ]
      ],
    )
