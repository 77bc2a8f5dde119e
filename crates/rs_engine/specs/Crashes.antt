-- What a crash leaves of an engine while it takes steps, one after another.
use Rattle.std.proofs.Common.{refl, subst}
use Rattle.std.specs.Prelude.{◌≡◌, ◌⊎◌, ◌≤◌, ◌++◌, ℕ, List, [], ◌∷◌}
use Rattle.rs_disk.specs.Content.{Content}
use Rattle.rs_disk.specs.declared.disk.Disk as disk
use Rattle.rs_engine.specs.Files.{SavesWhereAsked, WhereSaved}
use Rattle.rs_engine.specs.Kept.{EngineState}
use Rattle.rs_engine.specs.Single.{IsOneMachine}
use Rattle.rs_engine.specs.Staying.{StaysOnAnyDisk}
use Rattle.rs_machine.specs.Served.{Machine, Reply, Served}
use Rattle.rs_machine.specs.State.{State}
use Rattle.rs_machine.specs.Step.{without_cursors}
use Rattle.rs_store_source.specs.Lasting.{IsLast}
use Rattle.rs_store_source.specs.Standing.{Stands}
use Rattle.rs_syntax.specs.Tree.{CommandTree}

-- a command of a session, and what was replied
pub record Call : Type 0 where
  pub session : ℕ
  pub command : CommandTree
  pub reply : Reply

-- none of these calls was a SAVE or a REOPEN that was accepted
abbrev pub NoneSaved : List Call → Type 0
NoneSaved [] = Unit {0}
NoneSaved (call ∷ calls) = WhereSaved call.command call.reply ⊥ × NoneSaved calls

-- ---- machines

-- the calls were served from the one machine on, and came to the other
abbrev pub GoThrough : List Call → Machine → Machine → Type 0
GoThrough [] old new = new ≡ old
GoThrough (call ∷ calls) old new = (between : Machine) × Served old call.session call.command call.reply between × GoThrough calls between new

-- The state, without its cursors, after a front of the calls, which leaves this rest: each call of the front has its whole effect, and
-- none of the rest has any.
pub record IsAfterFront (calls rest : List Call) (first : Machine) (state : State) : Type 0 where
  pub front : List Call
  pub are : calls ≡ front ++ rest
  pub machine : Machine
  pub goes : GoThrough front first machine
  pub is : state ≡ without_cursors machine.state

-- it is the state that was kept before the calls, or the one after a front of them
abbrev pub IsOfAFront : List Call → Machine → State → State → Type 0
IsOfAFront calls first last state = (state ≡ last) ⊎ ((rest : List Call) × IsAfterFront calls rest first state)

-- and every SAVE and REOPEN that was accepted is in that front
abbrev pub HoldsAllSaved : List Call → Machine → State → State → Type 0
HoldsAllSaved calls first last state = ((state ≡ last) × NoneSaved calls) ⊎ ((rest : List Call) × NoneSaved rest × IsAfterFront calls rest first state)

module _ {D : Type 0} (d : disk.Ghosts D) where
  -- ---- engines

  -- what `step` says of a call, and `limit` of the engine before it
  pub record IsStep (call : Call) (old new : EngineState D) : Type 0 where
    pub served : (machine : Machine) → IsOneMachine d old machine → (next : Machine) × IsOneMachine d new next × Served machine call.session call.command call.reply next
    pub saved : SavesWhereAsked d call.command call.reply old new
    pub stays : StaysOnAnyDisk d call.session call.command call.reply old new
    pub within : old.store.pager.committed_fields.pages ≤ old.store.pager.limit

  -- and of all calls, one after another
  abbrev pub AreSteps : List Call → EngineState D → EngineState D → Type 0
  AreSteps [] old new = new ≡ old
  AreSteps (call ∷ calls) old new = (between : EngineState D) × IsStep call old between × AreSteps calls between new

  -- by some steps, one after another, an engine became another
  abbrev pub BecomesBySteps : EngineState D → EngineState D → Type 0
  BecomesBySteps old new = (calls : List Call) × AreSteps calls old new

  -- the engine is a machine to which the calls come, and its limit and whether its disk keeps the model of crashes are as they were
  pub record ComeTo (calls : List Call) (first : Machine) (old new : EngineState D) : Type 0 where
    pub machine : Machine
    pub is : IsOneMachine d new machine
    pub goes : GoThrough calls first machine
    pub limit : new.store.pager.limit ≡ old.store.pager.limit
    pub keeping : d.keeps_crashes new.store.pager.disk ≡ d.keeps_crashes old.store.pager.disk

  -- What calls leave of a crash, from a machine on, where a state was kept last. Each image that a crash might have left meanwhile was
  -- left before, or stands for the state after a front of the calls. What is kept after them holds all that was saved, and so does each
  -- image that a crash may leave then.
  pub record LeaveAFront (calls : List Call) (first : Machine) (last : State) (old new : EngineState D) : Type 0 where
    pub meanwhile : (start : D) (image : Content) → d.left_since start new.store.pager.disk image
        → d.left_since start old.store.pager.disk image ⊎ ((state : State) × IsOfAFront calls first last state × Stands old.store.pager.limit image state)
    pub kept : (state : State) × HoldsAllSaved calls first last state × IsLast d new.store.pager state
    pub images : new.store.pager.committed_fields.pages ≤ new.store.pager.limit → (image : Content) → d.may_leave new.store.pager.disk image
        → (state : State) × HoldsAllSaved calls first last state × Stands old.store.pager.limit image state

  -- ---- no steps, and steps after steps

  pub no_steps : (engine : EngineState D) → BecomesBySteps engine engine
  no_steps engine = ([], refl)

  steps_on : (calls more : List Call) (a b c : EngineState D) → AreSteps calls a b → AreSteps more b c → AreSteps (calls ++ more) a c
  steps_on [] more a b c same rest = subst (λ (engine : EngineState D). AreSteps more engine c) same rest
  steps_on (call ∷ calls) more a b c steps rest = (steps.0, steps.1, steps_on calls more steps.0 b c steps.2 rest)

  pub more_steps : (a b c : EngineState D) → BecomesBySteps a b → BecomesBySteps b c → BecomesBySteps a c
  more_steps a b c first second = (first.0 ++ second.0, steps_on first.0 second.0 a b c first.1 second.1)
