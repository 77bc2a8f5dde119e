-- The names of referents.
use Rattle.std.specs.Prelude.{◌≡◌, ℕ, Some}
use Rattle.std.specs.FinMap as names
use Rattle.rs_facts.specs.Fact.{Name}
use Rattle.rs_syntax.specs.Sound.{IsName}
use Rattle.rs_machine.specs.State.{State}

-- each referent of each route has a name that a line can say
pub record AreNamed (state : State) : Type 0 where
  pub each : (route name : Name) (measure : ℕ) → names.get (state.referents route) name ≡ Some measure → IsName name
