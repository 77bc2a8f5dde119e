-- What the caller of a check tells of facts, which are not in memory.
use Rattle.std.specs.Prelude.{◌≡◌, Bool, Some}
use Rattle.std.specs.FinMap as names
use Rattle.rs_facts.specs.Fact.{Name}
use Rattle.rs_facts.specs.Query.{RouteEnds}
use Rattle.rs_machine.specs.State.{State}
use Rattle.rs_machine.specs.Step.{has_fact_on, some_table}

-- of a route that is there, whether some table has a fact on it
abbrev pub TellsOfFacts : State → Name → Bool → Type 0
TellsOfFacts state route has_facts = (ends : RouteEnds) → names.get state.routes route ≡ Some ends → has_facts ≡ some_table state (has_fact_on route ends)
