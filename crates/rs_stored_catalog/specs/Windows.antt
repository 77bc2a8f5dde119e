-- Whether what a window names is there.
use Rattle.std.specs.Prelude.{ℕ, Bool, true, ◌&&◌, ◌||◌}
use Rattle.rs_catalog.specs.Definitions.{Definitions, referents_from}
use Rattle.rs_facts.specs.Fact.{Name, Names}
use Rattle.rs_facts.specs.Insert.{same_name}
use Rattle.rs_machine.specs.State.{has}
use Rattle.rs_methods.specs.Position.{PositionExpression, absolute, before, beyond, interpolative, start_name}
use Rattle.rs_syntax.specs.Tree.{WindowTree, part_of_route, whole_route}

module _ (definitions : Definitions) (referents_on : ℕ → Names ℕ) where
  -- the route has the referent; each has START
  abbrev pub referent_there : Name → Name → Bool
  referent_there route name = same_name start_name name || has (referents_from definitions referents_on route) name

  -- the route has the referent that the position names, if any
  abbrev pub position_there : Name → PositionExpression → Bool
  position_there route (absolute measure) = true
  position_there route (beyond name measure) = referent_there route name
  position_there route (before name measure) = referent_there route name
  position_there route (interpolative part) = true

  -- the window's route is there, and so are the referents that it names
  abbrev pub window_there : WindowTree → Bool
  window_there (whole_route route) = has definitions.routes route
  window_there (part_of_route route from to) = has definitions.routes route && (position_there route from && position_there route to)
