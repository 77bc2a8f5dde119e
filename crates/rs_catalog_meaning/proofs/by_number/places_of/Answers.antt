-- Each route in turn.
use Rattle.rs_catalog_meaning.proofs.PlaceLaws.{not_below, not_once, put_more, put_none}
use Rattle.rs_catalog_meaning.proofs.RouteLaws.{number_read, stored_numbers}
use Rattle.rs_catalog_meaning.proofs.by_number.places_of.Goals as goal
use Rattle.rs_catalog_meaning.proofs.by_number.places_of.Goals.{then-number-ge-ROUTES-via-then-number-ge-ROUTES, then-number-ge-ROUTES-via-else-number-ge-ROUTES+then-places-number-ne0}

pub loop-place-init : goal.loop-place-init
loop-place-init c = put_none (stored_numbers c.args.routes.now)

pub returns-then-number-ge-ROUTES-clause-none : goal.returns-then-number-ge-ROUTES-clause-none
returns-then-number-ge-ROUTES-clause-none c =
    let numbers = stored_numbers c.args.routes.now in
    let i = c.loop-place.place in
    let n = c.index-routes-place.result.number in
    let here = number_read c.args.routes.now i c.index-routes-place.result c.loop-place-test.true c.index-routes-place.is in
    elim c.then-number-ge-ROUTES.branch [
      | then-number-ge-ROUTES-via-then-number-ge-ROUTES w ↦ not_below numbers i n here.0 here.1 w.if-number-ge-ROUTES.true
      | then-number-ge-ROUTES-via-else-number-ge-ROUTES+then-places-number-ne0 w ↦ not_once numbers c.loop-place.places i n here.0 here.1 w.if-places-number-ne0.true c.loop-place.invariant
    ]

pub loop-place-preserved : goal.loop-place-preserved
loop-place-preserved c =
    let here = number_read c.args.routes.now c.loop-place.place c.index-routes-place.result c.loop-place-test.true c.index-routes-place.is in
    put_more (stored_numbers c.args.routes.now) c.loop-place.places c.loop-place.place c.index-routes-place.result.number here.1 c.if-number-ge-ROUTES.false
    c.if-places-number-ne0.false c.loop-place.invariant
