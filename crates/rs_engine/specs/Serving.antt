-- What a call of the engine may answer, by the machine.
use Rattle.std.specs.Prelude.{◌⊎◌, Result}
use Rattle.rs_disk.specs.declared.disk.Disk as disk
use Rattle.rs_engine.specs.Kept.{EngineState, IsMachine}
use Rattle.rs_machine.specs.Served.{Answers, Machine, NamesAWant, Reply}
use Rattle.rs_machine.specs.State.{State}
use Rattle.rs_machine.specs.Step.{Effect}
use Rattle.rs_refusal.specs.declared.refusal.Refusal.{Refusal}

module _ {D : Type 0} (d : disk.Ghosts D) where
  -- the engine is then a machine that the old one may have become, where this is the outcome, and the reply is one of the machine's, or
  -- names a want
  pub record IsServed (outcome : Result Effect Refusal) (old : Machine) (reply : Reply) (new : EngineState D) : Type 0 where
    pub next : Machine
    pub is : IsMachine d new next
    pub answer : Answers old outcome reply next ⊎ NamesAWant old reply next

  -- so it is, whichever machine the engine was
  abbrev pub Serves : (State → Result Effect Refusal) → Reply → EngineState D → EngineState D → Type 0
  Serves outcome reply old new = (machine : Machine) → IsMachine d old machine → IsServed (outcome machine.state) machine reply new
