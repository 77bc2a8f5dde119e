-- Views with each window as wide as its route.
use Rattle.std.specs.Prelude.{◌≡◌, false, Ok}
use Rattle.std.specs.FinMap as names
use Rattle.std.specs.List.{AllByRecursion}
use Rattle.std.specs.Option.{option_map}
use Rattle.rs_facts.specs.Fact.{Name}
use Rattle.rs_facts.specs.Query.{Query}
use Rattle.rs_syntax.specs.Sound.{IsName, IsQuery}
use Rattle.rs_syntax.specs.Tree.{QueryTree}
use Rattle.rs_machine.specs.Checking.{checked}
use Rattle.rs_machine.specs.Lawful.{IsWindowOf, widened}
use Rattle.rs_machine.specs.Opening.{windows_in}
use Rattle.rs_machine.specs.State.{State, has}

-- the other state has the same views widened, and is the same else
pub record AreWidened (state wide : State) : Type 0 where
  pub views : (name : Name) → names.get wide.views name ≡ option_map widened (names.get state.views name)
  pub as_many : names.len wide.views ≡ names.len state.views
  pub others : wide ≡ record state { views = wide.views }

-- A view that, widened, passes the checks of a query beside the widened views. Its own windows are of routes that are there, by
-- referents that are there, and its name is no table's.
pub record PassesWidened (state wide : State) (name : Name) (query : QueryTree) : Type 0 where
  pub named : IsName name
  pub sound : IsQuery query
  pub no_table : has state.tables name ≡ false
  pub windows : AllByRecursion (IsWindowOf state) (windows_in query)
  pub made : Query
  pub passes : checked wide (widened query) ≡ Ok made
