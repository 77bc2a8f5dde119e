-- The routes so far.
use Rattle.std.proofs.Common.{◌≡◌, map, take}
use Rattle.rs_catalog_pages.specs.Said.{said_route}
use Rattle.rs_file.specs.Meant.{span_of_route}
use Rattle.rs_file.proofs.loading.spans_by_number.Given as goal

abbrev pub invariant-loop-route : goal.invariant-loop-route
invariant-loop-route l = l.spans.items ≡ map span_of_route (map said_route (take l.route-index l.routes))
