-- The lines so far, and those that are left.
use Rattle.std.proofs.Common.{map}
use Rattle.rs_catalog.specs.Names.{entries_by_bytes}
use Rattle.rs_dump.specs.Sections.{route_commands, route_of}
use Rattle.rs_dump.specs.Written.{WroteSome}
use Rattle.rs_dump.proofs.definitions.write_routes.Given as goal

abbrev pub invariant-loop-name : goal.invariant-loop-name
invariant-loop-name g l = WroteSome (route_commands l.catalog) (map route_of (entries_by_bytes (λ route. route) l.name-iterator)) (g.W.Write.contents l.fn.output) (g.W.Write.contents l.output)
