-- No route has a number that is past the limit, or has no place.
use Rattle.std.specs.Prelude.{◌≢◌}
use Rattle.rs_catalog_pages.specs.declared.items.StoredRoute.{StoredRoute}
use Rattle.rs_catalog_meaning.proofs.Each.{said_each}
use Rattle.rs_catalog_meaning.proofs.PlaceLaws.{absent_past, absent_zero}
use Rattle.rs_catalog_meaning.proofs.RouteLaws.{stored_numbers}
use Rattle.rs_catalog_meaning.proofs.by_number.route_with.Goals as goal
use Rattle.rs_catalog_meaning.proofs.by_number.route_with.Goals.{then-number-ge-ROUTES-via-then-number-ge-ROUTES, then-number-ge-ROUTES-via-else-number-ge-ROUTES+then-places-number-eq0}

pub returns-then-number-ge-ROUTES-clause-none : goal.returns-then-number-ge-ROUTES-clause-none
returns-then-number-ge-ROUTES-clause-none c =
    let places = c.args.places.now in
    said_each (λ (route : StoredRoute). route.number) (λ n. n ≢ c.args.number) c.args.routes.now
    (elim c.then-number-ge-ROUTES.branch [
      | then-number-ge-ROUTES-via-then-number-ge-ROUTES w ↦ absent_past (stored_numbers c.args.routes.now) places c.args.number c.requires w.if-number-ge-ROUTES.true
      | then-number-ge-ROUTES-via-else-number-ge-ROUTES+then-places-number-eq0 w ↦
          absent_zero (stored_numbers c.args.routes.now) places c.args.number c.requires w.if-places-number-eq0.true
    ])
