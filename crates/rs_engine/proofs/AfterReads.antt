-- A command that is served after a read: it is served as if the read had not been.
use Rattle.std.proofs.Common.{◌≡◌, ◌≤◌, ℕ, Result, Ok, Err, inl, inr, arith, refl, subst}
use Rattle.rs_disk.specs.declared.disk.Disk as disk
use Rattle.rs_engine.specs.Clearing.{HasCleared, IsServedClearing, WhereDone}
use Rattle.rs_engine.specs.Kept.{EngineState, IsMachine}
use Rattle.rs_engine.specs.Reads.{ReadsEngine}
use Rattle.rs_engine.specs.Serving.{IsServed}
use Rattle.rs_file.specs.Contents.{Contents}
use Rattle.rs_engine.proofs.Filing.{stays, stays_beside}
use Rattle.rs_engine.proofs.Reading.{still}
use Rattle.rs_machine.specs.Served.{Answers, CountsOn, IsUnchanged, Machine, NamesAWant, Reply}
use Rattle.rs_machine.specs.Step.{Effect}
use Rattle.rs_refusal.specs.Counts.{Rose}
use Rattle.rs_refusal.specs.declared.refusal.Refusal.{Refusal}

rose_from : (one other new : ℕ) → one ≤ other → Rose other new → Rose one new
rose_from one other new low (inl above) = inl (omega (arith, low, above))
rose_from one other new low (inr last) = inr last

module _ {D : Type 0} (d : disk.Ghosts D) (old new : EngineState D) (machine : Machine) (is : IsMachine d old machine) (reads : ReadsEngine d old new) where
  abbrev pub read_machine : Machine
  read_machine = record machine { failures = d.failures new.store.pager.disk }

  counts_from : (next : Machine) → CountsOn read_machine next → CountsOn machine next
  counts_from next counts = record { failures = omega (arith, is.failures, reads.store.failures, counts.failures); full_refusals = omega (arith, counts.full_refusals) }

  unchanged_from : (next : Machine) → IsUnchanged read_machine next → IsUnchanged machine next
  unchanged_from next unchanged = record { state = unchanged.state; counts = counts_from next unchanged.counts }

  answers_from : (outcome : Result Effect Refusal) (reply : Reply) (next : Machine) → Answers read_machine outcome reply next → Answers machine outcome reply next
  answers_from (Ok effect) reply next answers = (answers.0, answers.1, counts_from next answers.2)
  answers_from (Err why) reply next answers = (answers.0, unchanged_from next answers.1)

  wants_from : (reply : Reply) (next : Machine) → NamesAWant read_machine reply next → NamesAWant machine reply next
  wants_from reply next wants = (
    unchanged_from next wants.0,
    elim wants.1 [
      | inl memory ↦ inl memory
      | inr (inl failed) ↦ inr (inl (failed.0, rose_from machine.failures _ next.failures (omega (arith, is.failures, reads.store.failures)) failed.1))
      | inr (inr full) ↦ inr (inr full)
    ],
  )

  pub served_after : (outcome : Result Effect Refusal) (reply : Reply) (final : EngineState D) → IsServed d outcome read_machine reply final → IsServed d outcome machine reply final
  served_after outcome reply final served = record {
    next = served.next;
    is = served.is;
    answer = elim served.answer [ inl answers ↦ inl (answers_from outcome reply served.next answers) | inr wants ↦ inr (wants_from reply served.next wants) ];
  }

  -- it has cleared what it would have cleared without the read
  pub same_contents : (still d old new machine is reads).stands.contents ≡ is.stands.contents
  unfolding still stays stays_beside
  same_contents = refl

  pub cleared_after : {changes : Contents → Contents → Type 0} (outcome : Result Effect Refusal) (reply : Reply) (final : EngineState D)
      → IsServedClearing d changes outcome read_machine (still d old new machine is reads).stands.contents reply final → IsServedClearing d changes outcome machine is.stands.contents reply final
  cleared_after {changes = changes} outcome reply final clearing = record {
    served = served_after outcome reply final clearing.served;
    cleared = subst (λ (before : Contents). WhereDone reply (HasCleared d changes before final)) same_contents clearing.cleared;
  }
