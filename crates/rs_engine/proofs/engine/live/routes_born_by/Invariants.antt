-- The routes so far and those that are left are all that were born by the version.
use Rattle.std.proofs.Common.{◌≡◌, ◌++◌, ℕ, List, filter, map, nat_le}
use Rattle.arrayvec.specs.ArrayString.{ArrayString}
use Rattle.rs_answers.specs.Routes.{entry_of}
use Rattle.rs_catalog.specs.Definitions.{RouteItem}
use Rattle.rs_catalog.specs.Names.{entries_by_bytes}
use Rattle.rs_facts.specs.Fact.{Name}
use Rattle.rs_store_source.specs.Versions.{routes_by}
use Rattle.rs_engine.proofs.engine.live.routes_born_by.Given as goal

abbrev pub left_of : ℕ → List (ArrayString × RouteItem) → List (Name × RouteItem)
left_of version rest = filter (λ entry. nat_le entry.1.born version) (entries_by_bytes (λ route. route) rest)

abbrev pub invariant-loop-name : goal.invariant-loop-name
invariant-loop-name l = map entry_of l.routes.items ++ left_of l.version l.name-iterator ≡ routes_by l.version l.catalog
