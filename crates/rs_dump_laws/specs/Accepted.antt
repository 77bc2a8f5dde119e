-- Commands that are accepted one after another.
use Rattle.std.specs.Prelude.{◌≡◌, List, [], ◌∷◌, Ok}
use Rattle.rs_syntax.specs.Tree.{CommandTree}
use Rattle.rs_machine.specs.State.{State}
use Rattle.rs_machine.specs.Step.{Effect, outcome}

-- Said by session 0, each is accepted in the state that the one before left, and the last leaves this state.
abbrev pub Accepted : State → List CommandTree → State → Type 0
Accepted old [] new = new ≡ old
Accepted old (command ∷ commands) new = (effect : Effect) × (outcome old 0 command ≡ Ok effect) × Accepted effect.state commands new
