-- What is kept of a cursor, and lines that are given from one place to another.
use Rattle.std.specs.Prelude.{◌≡◌, ◌+◌, ◌++◌, ◌<◌, ◌≤◌, ℕ, IfSome, List, Option, Some, drop, length, map, take}
use Rattle.std.specs.FinMap as maps
use Rattle.std.specs.List.{slice_get}
use Rattle.rs_answers.specs.Portions.{IsStart}
use Rattle.rs_answers.specs.Resumed.{IsMarked}
use Rattle.rs_answers.specs.Routes.{entry_of}
use Rattle.rs_answers.specs.Versions.{LiesOnRoutes, SeenVersion, lines_seen_on}
use Rattle.rs_catalog.specs.declared.entries.NamedRoute.{NamedRoute}
use Rattle.rs_catalog.specs.Definitions.{RouteItem}
use Rattle.rs_cursor.specs.Held.{lines_left}
use Rattle.rs_cursor.specs.declared.cursor.Cursor.{Cursor}
use Rattle.rs_cursor.specs.declared.kept.KeptAhead.{KeptAhead}
use Rattle.rs_cursor.specs.declared.kept.KeptLines.{KeptLines}
use Rattle.rs_cursor.specs.declared.place.Place.{Place}
use Rattle.rs_facts.specs.Fact.{Name}
use Rattle.rs_machine.specs.State.{RowText}
use Rattle.rs_methods.specs.declared.position.Method.{Method}
use Rattle.rs_plan.specs.declared.plan.Plan.{Plan}
use Rattle.rs_serve.specs.ReplyView.{rows_of}

-- the version shows a route at the place, of which the plan has so many lines in all, and from the place on these, as far as they go
pub record AreLinesAt (seen : SeenVersion) (plan : Plan) (method : Method) (place : Place) (all : ℕ) (lines : List RowText) : Type 0 where
  pub route : Name × RouteItem
  pub there : slice_get (maps.entries seen.routes) place.route ≡ Some route
  pub counts : all ≡ length (lines_seen_on seen plan method route)
  pub starts : IsStart lines (drop place.given (lines_seen_on seen plan method route))

-- Lines that are kept are so, and the marks are of their route: of a cursor they depend on the plan, the method and the version, and not on
-- the place.
pub record AreFormed (seen : SeenVersion) (plan : Plan) (method : Method) (kept : KeptLines) : Type 0 where
  pub at : AreLinesAt seen plan method (record { route = kept.route; given = kept.first }) kept.all (rows_of kept.lines.items)
  pub marked : (on : Name × RouteItem) → slice_get (maps.entries seen.routes) kept.route ≡ Some on → IsMarked seen plan on.1 kept.mark
  pub next : (on : Name × RouteItem) → slice_get (maps.entries seen.routes) kept.route ≡ Some on → IsMarked seen plan on.1 kept.next

-- these are the routes of the version, and the lines are lines of one of them
pub record AreListed (seen : SeenVersion) (plan : Plan) (method : Method) (routes : List NamedRoute) (lines : Option KeptLines) : Type 0 where
  pub listed : map entry_of routes ≡ maps.entries seen.routes
  pub formed : IfSome lines (AreFormed seen plan method)

-- what is kept is so, wherever the cursor is
pub record AreKept (seen : SeenVersion) (plan : Plan) (method : Method) (kept : KeptAhead) : Type 0 where
  pub listed : IfSome kept.routes (λ routes. map entry_of routes.items ≡ maps.entries seen.routes)
  pub formed : IfSome kept.lines (AreFormed seen plan method)

-- the version shows this route, and in the order of names it is the one of this number
pub record IsRouteAt (seen : SeenVersion) (number : ℕ) (named : NamedRoute) : Type 0 where
  pub there : slice_get (maps.entries seen.routes) number ≡ Some (entry_of named)
  pub shown : maps.get seen.routes named.name.bytes ≡ Some named.route

-- The plan is evaluated at a version that is shown, in which it has rows on routes alone and this route is at the place.
pub record IsStopOf (Shows : ℕ → SeenVersion → Type 0) (cursor : Cursor) (place : Place) (named : NamedRoute) (seen : SeenVersion) : Type 0 where
  pub shows : Shows cursor.version seen
  pub lies : LiesOnRoutes seen cursor.plan
  pub at : IsRouteAt seen place.route named

-- lines are appended, and of those that were left the others are left
pub record GivesFrom (left after old new : List RowText) : Type 0 where
  pub given : List RowText
  pub parts : left ≡ given ++ after
  pub gives : new ≡ old ++ given

-- From the one place to the other the lines that are appended are those of the cursor that come there, at whatever version of which this is
-- so; the others are left.
pub record GivesLines (Has : SeenVersion → Type 0) (cursor : Cursor) (from to : Place) (old new : List RowText) : Type 0 where
  pub at : (versions : ℕ → SeenVersion) → Has (versions cursor.version)
      → GivesFrom (lines_left versions (record cursor { place = from })) (lines_left versions (record cursor { place = to })) old new

-- so many lines of those that were left are given, or all, and the others are left
pub record GivesWanted (wanted : ℕ) (left given after : List RowText) : Type 0 where
  pub gives : given ≡ take wanted left
  pub others : after ≡ drop wanted left

-- the place goes on by a route or there are more lines, but no more than are wanted
pub record GoesOn (from to : Place) (most old new : ℕ) : Type 0 where
  pub no_way_back : from.route ≤ to.route
  pub no_route_skipped : to.route ≤ from.route + 1
  pub no_fewer : old ≤ new
  pub no_more : new ≤ old + most
  pub goes : from.route + old < to.route + new
