use Rattle.std.proofs.Common.{◌≡◌}
use Rattle.rs_machine.specs.Opening.{names_referent}
use Rattle.rs_catalog.proofs.UseLaws.{some_query}
use Rattle.rs_catalog.proofs.catalog.Catalog.is_referent_named.Given as goal

abbrev pub invariant-loop-view : goal.invariant-loop-view
invariant-loop-view l = some_query (names_referent l.fn.route.bytes l.fn.name.bytes) l.view-iterator ≡ some_query (names_referent l.fn.route.bytes l.fn.name.bytes) l.initial.view-iterator
