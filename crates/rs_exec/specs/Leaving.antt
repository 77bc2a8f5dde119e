-- What calls leave of a source, and why they are refused.
use Rattle.std.specs.Prelude.{Result, IfErr}
use Rattle.rs_refusal.specs.declared.refusal.Refusal.{Refusal}
use Rattle.rs_exec.specs.Snapshot.{Snapshots}
use Rattle.rs_exec.specs.declared.source.Source.{Ghosts}

-- the source stands for all that it stood for, and the calls pass
pub record LeavesBehind {S : Type 0} (source : Ghosts S) (old new : S) : Type 0 where
  pub stands : (snapshots : Snapshots) → source.is old snapshots → source.is new snapshots
  pub passes : source.passes old new

-- the same, and where they are refused, the source tells why
pub record EndsWith {S A : Type 0} (source : Ghosts S) (old new : S) (result : Result A Refusal) : Type 0 where
  pub leaves : LeavesBehind source old new
  pub wants : IfErr result (λ why. source.wants why old new)
