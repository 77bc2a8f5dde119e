-- What one call leaves of a source and then another, both leave.
use Rattle.rs_exec.specs.declared.source.Source.{Ghosts}
use Rattle.rs_exec.specs.Leaving.{LeavesBehind}

module _ {S : Type 0} (source : Ghosts S) where
  pub leaves-none : ((one : S) → source.passes one one) → (one : S) → LeavesBehind source one one
  leaves-none reflects one = record { stands = λ snapshots there. there; passes = reflects one }

  pub leaves-then : ((a b c : S) → source.passes a b → source.passes b c → source.passes a c) → (a b c : S) → LeavesBehind source a b → LeavesBehind source b c → LeavesBehind source a c
  leaves-then trans a b c first second = record {
    stands = λ snapshots there. second.stands snapshots (first.stands snapshots there);
    passes = trans a b c first.passes second.passes;
  }
