use Rattle.std.proofs.Common.{◌≡◌}
use Rattle.rs_machine.specs.Opening.{names_route}
use Rattle.rs_catalog.proofs.UseLaws.{some_query}
use Rattle.rs_catalog.proofs.catalog.Catalog.is_route_named.Given as goal

abbrev pub invariant-loop-view : goal.invariant-loop-view
invariant-loop-view l = some_query (names_route l.fn.route.bytes) l.view-iterator ≡ some_query (names_route l.fn.route.bytes) l.initial.view-iterator
