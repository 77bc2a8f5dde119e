-- What may be answered to a command: the machine's answer, or a want that is named.
use Rattle.std.specs.Prelude.{◌≡◌, ℕ, ◌≤◌, ◌⊎◌, List, Result, Ok, Err}
use Rattle.rs_refusal.specs.declared.refusal.Refusal.{Refusal}
use Rattle.rs_refusal.specs.declared.refusal.Refusal.TheVariants.{OutOfMemory, Disk, FileFull}
use Rattle.rs_refusal.specs.Counts.{Rose}
use Rattle.rs_syntax.specs.Tree.{CommandTree}
use Rattle.rs_machine.specs.State.{State, RowText}
use Rattle.rs_machine.specs.Step.{Effect, outcome}

-- The machine with the two counts that its answers may name: calls of the disk that failed, and pages that were
-- asked for where the file was full. Both stop at their greatest number.
pub record Machine : Type 0 where
  pub state : State
  pub failures : ℕ
  pub full_refusals : ℕ

pub data Reply : Type 0 where
  done : List RowText → ℕ → Reply
  refused : Refusal → Reply

-- no count falls
pub record CountsOn (old new : Machine) : Type 0 where
  pub failures : old.failures ≤ new.failures
  pub full_refusals : old.full_refusals ≤ new.full_refusals

-- the state is as it was
pub record IsUnchanged (old new : Machine) : Type 0 where
  pub state : new.state ≡ old.state
  pub counts : CountsOn old new

-- the command was accepted, or refused by its first check that fails, which leaves the state
abbrev pub Answers : Machine → Result Effect Refusal → Reply → Machine → Type 0
Answers old (Ok effect) reply new = (reply ≡ done effect.rows effect.count) × (new.state ≡ effect.state) × CountsOn old new
Answers old (Err refusal) reply new = (reply ≡ refused refusal) × IsUnchanged old new

-- want of memory, of the disk or of room: it is named, and nothing has changed
abbrev pub NamesAWant : Machine → Reply → Machine → Type 0
NamesAWant old reply new = IsUnchanged old new × ((reply ≡ refused OutOfMemory)
    ⊎ ((reply ≡ refused Disk) × Rose old.failures new.failures)
    ⊎ ((reply ≡ refused FileFull) × Rose old.full_refusals new.full_refusals))

-- one step: what may be answered to the command of a session, and the machine after it
abbrev pub Served : Machine → ℕ → CommandTree → Reply → Machine → Type 0
Served old session command reply new = Answers old (outcome old.state session command) reply new ⊎ NamesAWant old reply new
