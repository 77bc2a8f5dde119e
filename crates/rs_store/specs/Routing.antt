-- What a state has to have on a route that is to go: nothing.
use Rattle.std.specs.Prelude.{◌≡◌, Some, false}
use Rattle.std.specs.FinMap as names
use Rattle.rs_facts.specs.Fact.{Name}
use Rattle.rs_facts.specs.Query.{RouteEnds}
use Rattle.rs_machine.specs.State.{State}
use Rattle.rs_machine.specs.Step.{has_fact_on, some_table}

-- no table of the state has a fact on the route between its ends
abbrev pub HasNoFactOn : Name → State → Type 0
HasNoFactOn name state = (ends : RouteEnds) → names.get state.routes name ≡ Some ends → some_table state (has_fact_on name ends) ≡ false
