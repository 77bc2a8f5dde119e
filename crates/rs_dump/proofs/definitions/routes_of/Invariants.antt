-- Those so far, and those that are left.
use Rattle.std.proofs.Common.{◌≡◌, ◌++◌, map}
use Rattle.std.specs.FinMap as names
use Rattle.rs_catalog.specs.Names.{entries_by_bytes}
use Rattle.rs_dump.specs.Sections.{named_route, route_seen}
use Rattle.rs_dump.proofs.definitions.routes_of.Given as goal

abbrev pub invariant-loop-name : goal.invariant-loop-name
invariant-loop-name l = map route_seen l.routes.items ++ map named_route (entries_by_bytes (λ x. x) l.name-iterator) ≡ map named_route (names.entries l.catalog.routes)
