-- What a version shows of a store by numbers, and the lines of a plan there.
use Rattle.std.specs.Prelude.{◌≡◌, ◌+◌, ℕ, List, Some, flat_map, map}
use Rattle.std.specs.FinMap as names
use Rattle.rs_catalog.specs.Definitions.{RouteItem}
use Rattle.rs_catalog.specs.Events.{behind}
use Rattle.rs_exec.specs.Meaning.{kind_in, rows_in}
use Rattle.rs_exec.specs.Snapshot.{Snapshot}
use Rattle.rs_facts.specs.Fact.{Name, Names}
use Rattle.rs_facts.specs.LineText.{line_of}
use Rattle.rs_facts.specs.Runs.{LieWithin, Stretch, runs_of}
use Rattle.rs_machine.specs.State.{RowText}
use Rattle.rs_methods.specs.Position.{expression_at, expression_text}
use Rattle.rs_methods.specs.declared.position.Method.{Method}
use Rattle.rs_plan.specs.declared.plan.Plan.{Plan}

-- its routes by name, the referents of each route by the route's number, and the rows of its tables with the ends of routes by number
pub record SeenVersion : Type 0 where
  pub routes : Names RouteItem
  pub referents : ℕ → Names ℕ
  pub snapshot : Snapshot

-- how a measure of the route is printed by a method
abbrev pub position_seen : SeenVersion → RouteItem → Method → ℕ → RowText
position_seen seen on method k = expression_text (expression_at on.ends.start on.ends.finish (names.entries (seen.referents on.number)) method k)

-- the plan's runs on a route, from its start to its end
abbrev pub runs_seen : SeenVersion → Plan → RouteItem → List Stretch
runs_seen seen plan on = runs_of (kind_in plan) (rows_in plan seen.snapshot on.number) on.ends.start (on.ends.finish + 1)

-- their lines
abbrev pub lines_seen_on : SeenVersion → Plan → Method → Name × RouteItem → List RowText
lines_seen_on seen plan method route = map (line_of (position_seen seen route.1 method) (kind_in plan) route.0) (runs_seen seen plan route.1)

-- those of several routes, one after another
abbrev pub lines_seen : SeenVersion → Plan → Method → List (Name × RouteItem) → List RowText
lines_seen seen plan method routes = flat_map (lines_seen_on seen plan method) routes

-- of each route that the version shows, the plan has rows only where rows of its kind may hold
pub record LiesOnRoutes (seen : SeenVersion) (plan : Plan) : Type 0 where
  pub each : (route : Name) (on : RouteItem) → names.get seen.routes route ≡ Some on
      → LieWithin on.ends.start (behind (kind_in plan) on.ends) (rows_in plan seen.snapshot on.number)
