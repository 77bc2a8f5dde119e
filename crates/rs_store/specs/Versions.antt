-- What a version sees of the routes of a store.
use Rattle.std.specs.Prelude.{◌≡◌, ℕ, List, filter, map, nat_le}
use Rattle.std.specs.FinMap as names
use Rattle.rs_catalog.specs.Definitions.{Definitions, RouteItem}
use Rattle.rs_facts.specs.Fact.{Name}
use Rattle.rs_facts.specs.Query.{RouteEnds}
use Rattle.rs_file.specs.Contents.{Contents}
use Rattle.rs_file_meaning.specs.Seen.{born_by}
use Rattle.rs_file_meaning.specs.States.{routes_named, world_at}

abbrev pub ends_by_name : Name × RouteItem → Name × RouteEnds
ends_by_name entry = (entry.0, entry.1.ends)

-- the routes of the catalogue that were born by the version, in the order of their names
abbrev pub routes_by : ℕ → Definitions → List (Name × RouteItem)
routes_by version catalog = filter (λ entry. nat_le entry.1.born version) (names.entries catalog.routes)

-- These are the routes that the version sees, in the order of their names, with their numbers and births: the routes of its world.
pub record AreRoutesAt (version : ℕ) (contents : Contents) (routes : List (Name × RouteItem)) : Type 0 where
  pub are : routes ≡ names.entries (routes_named (born_by version contents.definitions.routes))
  pub world : map ends_by_name routes ≡ names.entries (world_at contents version).routes
