use Rattle.std.proofs.Common.{◌≡◌, map}
use Rattle.rs_catalog_pages.specs.Items.{RouteItem}
use Rattle.rs_catalog_pages.specs.Said.{said_route}
use Rattle.rs_file_meaning.specs.States.{named_route}
use Rattle.rs_stored_catalog.proofs.Entering.{so_far}
use Rattle.rs_stored_catalog.proofs.making.enter_routes.Given as goal

-- the routes so far
abbrev pub invariant-loop-route : goal.invariant-loop-route
invariant-loop-route l = l.catalog ≡ record l.fn.catalog { routes = so_far (λ (x : RouteItem). x.name) (λ x. (named_route x).1) (map said_route l.routes) l.route-index }
