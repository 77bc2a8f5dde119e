-- Services one after another, with reopenings among them, and the one machine that they are.
use Rattle.std.specs.Prelude.{◌≡◌, ◌⊎◌, ℕ, List, [], ◌∷◌, Option, Result, Ok, Err}
use Rattle.rs_disk.specs.declared.disk.Disk as disk
use Rattle.rs_engine.specs.Files.{Closes, Opens}
use Rattle.rs_engine.specs.Kept.{EngineState}
use Rattle.rs_engine.specs.Serving.{Serves}
use Rattle.rs_engine.specs.Single.{IsOneMachine}
use Rattle.rs_machine.specs.Served.{Machine, Reply, Served}
use Rattle.rs_machine.specs.State.{State}
use Rattle.rs_machine.specs.Step.{counted, without_cursors}
use Rattle.rs_protocol.specs.Ends.{Ends}
use Rattle.rs_protocol.specs.declared.stream.End.{End}
use Rattle.rs_protocol.specs.declared.stream.Fault.{Fault}
use Rattle.rs_refusal.specs.declared.refusal.Refusal.{Refusal}
use Rattle.rs_syntax.specs.Tree.{reopen}

-- how a service ended, what it was told, what is still unread, and what was written before and after it
pub record Service : Type 0 where
  pub outcome : Result End Fault
  pub told : List ℕ
  pub unread : Option (List ℕ)
  pub before : Option (List ℕ)
  pub after : Option (List ℕ)

-- An input was served; the engine was asked to read its file anew, and replied so; it could not be closed; or it was closed, and the disk
-- that it handed back was opened.
pub data Part : Type 0 where
  served : Service → Part
  reopened : Reply → Part
  not_closed : Part
  opened_again : Part

-- ---- by one machine

-- the machine from which one part goes on, and the one to which it comes
abbrev pub Goes : Part → Machine → Machine → Type 0
Goes (served service) old new = Ends service.outcome service.told service.unread old new service.before service.after
Goes (reopened reply) old new = Served old 0 reopen reply new
Goes not_closed old new = new.state ≡ old.state
Goes opened_again old new = new.state ≡ without_cursors old.state

-- so do all of them, one after another
abbrev pub GoOn : List Part → Machine → Machine → Type 0
GoOn [] old new = new ≡ old
GoOn (part ∷ parts) old new = (between : Machine) × Goes part old between × GoOn parts between new

-- ---- by engines

module _ {D : Type 0} (d : disk.Ghosts D) where
  -- an engine could not be closed, and was handed back
  pub record HandsBack (old new : EngineState D) : Type 0 where
    pub why : Refusal
    pub closes : Closes d old (Err (new, why))

  -- an engine was closed, and another one opened on its disk
  pub record ClosesAndOpens (old new : EngineState D) : Type 0 where
    pub limit : ℕ
    pub disk : D
    pub closes : Closes d old (Ok disk)
    pub opens : Opens d limit disk (Ok new)

  -- what the calls `run`, `reopen`, `close` and `open` say of each part
  abbrev pub Does : Part → EngineState D → EngineState D → Type 0
  Does (served service) old new = (machine : Machine) → IsOneMachine d old machine
      → (next : Machine) × IsOneMachine d new next × Ends service.outcome service.told service.unread machine next service.before service.after
  Does (reopened reply) old new = Serves d (λ (state : State). Ok (counted 0 (without_cursors state))) reply old new
  Does not_closed old new = HandsBack old new
  Does opened_again old new = ClosesAndOpens old new

  -- and of all of them, one after another
  abbrev pub AreDone : List Part → EngineState D → EngineState D → Type 0
  AreDone [] old new = new ≡ old
  AreDone (part ∷ parts) old new = (between : EngineState D) × Does part old between × AreDone parts between new
