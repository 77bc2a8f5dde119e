use Rattle.std.proofs.Common.{◌≡◌}
use Rattle.rs_catalog.proofs.UseLaws.{some_aligned}
use Rattle.rs_catalog.proofs.catalog.Catalog.is_route_aligned.Given as goal

abbrev pub invariant-loop-alignment : goal.invariant-loop-alignment
invariant-loop-alignment l = some_aligned l.fn.route.bytes l.alignment-iterator ≡ some_aligned l.fn.route.bytes l.initial.alignment-iterator
