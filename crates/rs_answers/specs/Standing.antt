-- The state that a source stands for at a version.
use Rattle.std.specs.Prelude.{ℕ}
use Rattle.rs_machine.specs.State.{State}
use Rattle.rs_catalog.specs.Definitions.{Definitions, Numbered}
use Rattle.rs_catalog.specs.Referents.{HeldReferents}
use Rattle.rs_exec.specs.Snapshot.{Snapshots}
use Rattle.rs_answers.specs.Present.{IsPresent}

-- among the snapshots that it stands for, that of the version is the present of the state, by its definitions and referents
pub record StandsAt {E : Type 0} (is_of : E → Snapshots → Type 0) (definitions : E → Definitions) (referents : E → Numbered HeldReferents) (version : ℕ) (e : E) (state : State) : Type 0 where
  pub snapshots : Snapshots
  pub is : is_of e snapshots
  pub present : IsPresent (definitions e) (referents e) state (snapshots version)
