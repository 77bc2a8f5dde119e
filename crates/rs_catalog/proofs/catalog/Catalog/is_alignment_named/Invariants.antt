use Rattle.std.proofs.Common.{◌≡◌}
use Rattle.rs_machine.specs.Opening.{names_alignment}
use Rattle.rs_catalog.proofs.UseLaws.{some_query}
use Rattle.rs_catalog.proofs.catalog.Catalog.is_alignment_named.Given as goal

abbrev pub invariant-loop-view : goal.invariant-loop-view
invariant-loop-view l = some_query (names_alignment l.fn.name.bytes) l.view-iterator ≡ some_query (names_alignment l.fn.name.bytes) l.initial.view-iterator
