-- Routes as they are copied from the catalogue, and those of them that are looked at for a plan.
use Rattle.std.specs.Prelude.{◌≡◌, Bool, false, List, Some, filter}
use Rattle.std.specs.FinMap as names
use Rattle.rs_facts.specs.Fact.{Name}
use Rattle.rs_catalog.specs.Definitions.{Definitions, RouteItem}
use Rattle.rs_exec.specs.Elsewhere.{HasNothingOn, windows_over}
use Rattle.rs_exec.specs.Windows.{first_route}
use Rattle.rs_plan.specs.declared.plan.Plan.{Plan}
use Rattle.rs_catalog.specs.declared.entries.NamedRoute.{NamedRoute}

-- its name, and what is kept under it
abbrev pub entry_of : NamedRoute → Name × RouteItem
entry_of named = (named.name.bytes, named.route)

-- routes of the definitions, in the order of their names, without some on which the plan has nothing
pub record AreVisited (definitions : Definitions) (plan : Plan) (routes : List (Name × RouteItem)) : Type 0 where
  pub is_visited : Name → Bool
  pub those : routes ≡ filter (λ entry. is_visited entry.0) (names.entries definitions.routes)
  pub others : (route : Name) (on : RouteItem) → names.get definitions.routes route ≡ Some on → is_visited route ≡ false → HasNothingOn on.number plan

-- the first of the windows over the plan is on this route, which the definitions have under the window's name and number
pub record IsUnderWindows (definitions : Definitions) (plan : Plan) (named : NamedRoute) : Type 0 where
  pub windowed : first_route (windows_over plan) ≡ Some (record { name = named.name; number = named.route.number })
  pub there : names.get definitions.routes named.name.bytes ≡ Some named.route
