use Rattle.std.proofs.Common.{◌≡◌, ◌++◌, map}
use Rattle.std.specs.FinMap as names
use Rattle.rs_catalog.specs.Names.{entries_by_bytes}
use Rattle.rs_answers.specs.Routes.{entry_of}
use Rattle.rs_answers.proofs.routes.named_routes.Given as goal

abbrev pub invariant-loop-name : goal.invariant-loop-name
invariant-loop-name l = map entry_of l.routes.items ++ entries_by_bytes (λ route. route) l.name-iterator ≡ names.entries l.catalog.routes
