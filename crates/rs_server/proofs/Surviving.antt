-- What a service over a disk leaves of a crash, from its opening to its closing.
use Rattle.std.proofs.Common.{◌≡◌, ◌≤◌, ◌⊎◌, ℕ, IsTrue, List, [], Option, Some, None, Result, inl, inr, refl, subst, sym}
use Rattle.std.specs.Prelude.{IfSome}
use Rattle.std.proofs.lemmas.List.{append-nil}
use Rattle.rs_disk.specs.Content.{Content}
use Rattle.rs_disk.specs.declared.disk.Disk as disk
use Rattle.rs_engine.specs.Crashes.{AreSteps, Call, GoThrough, HoldsAllSaved, IsOfAFront, LeaveAFront}
use Rattle.rs_engine.specs.Kept.{EngineState}
use Rattle.rs_engine.specs.Lasting.{IsLast, LeavesOneOf, StaysFileOf}
use Rattle.rs_engine.specs.Standing.{Stands}
use Rattle.rs_machine.specs.Served.{Machine}
use Rattle.rs_machine.specs.State.{State}
use Rattle.rs_machine.specs.Step.{without_cursors}
use Rattle.rs_pages.specs.declared.pages.TheConstants.{GREATEST_LIMIT}
use Rattle.rs_server.proofs.Closing.{stands_within}
use Rattle.rs_server.specs.Disks.{LeavesFrontOf, disk_of}
use Rattle.rs_server.specs.declared.report.Failure.{Failure}

-- what holds all that was saved is of a front
of_saved : (calls : List Call) (first : Machine) (kept state : State) → HoldsAllSaved calls first kept state → IsOfAFront calls first kept state
of_saved calls first kept state (inl same) = inl same.0
of_saved calls first kept state (inr held) = inr (held.0, held.2)

-- all calls are a front of them
of_all : (calls : List Call) (first last : Machine) (kept : State) → GoThrough calls first last → IsOfAFront calls first kept (without_cursors last.state)
of_all calls first last kept goes = inr ([], record { front = calls; are = sym (append-nil calls); machine = last; goes = goes; is = refl })

module _ {D : Type 0} (d : disk.Ghosts D) where
  -- steps between engines that are these
  pub steps_between : (calls : List Call) (a first b last : EngineState D) → a ≡ first → last ≡ b → AreSteps d calls a b → AreSteps d calls first last
  steps_between calls a first b last one other steps =
      subst (λ (engine : EngineState D). AreSteps d calls engine last) one (subst (λ (engine : EngineState D). AreSteps d calls a engine) (sym other) steps)

  -- steps, and then a closing
  module _ (calls : List Call) (first last : Machine) (kept : State) (old new : EngineState D) (goes : GoThrough calls first last) (leave : LeaveAFront d calls first kept old new)
      (below : old.store.pager.limit ≤ GREATEST_LIMIT) (same : new.store.pager.limit ≡ old.store.pager.limit) where
    raised : (image : Content) (state : State) → Stands old.store.pager.limit image state → Stands GREATEST_LIMIT image state
    raised image state stands = stands_within old.store.pager.limit GREATEST_LIMIT below image state stands

    lowered : (image : Content) (state : State) → Stands new.store.pager.limit image state → Stands GREATEST_LIMIT image state
    lowered image state stands = raised image state (subst (λ (limit : ℕ). Stands limit image state) same stands)

    closed_after : (closed : D) → LeavesOneOf d new.store.pager.limit leave.kept.0 (without_cursors last.state) new.store.pager.disk closed → (start : D) (image : Content)
        → d.left_since start closed image → d.left_since start old.store.pager.disk image ⊎ ((state : State) × IsOfAFront calls first kept state × Stands GREATEST_LIMIT image state)
    closed_after closed closing start image left = elim (closing start image left) [
      | inl before ↦ elim (leave.meanwhile start image before) [
        | inl earlier ↦ inl earlier
        | inr found ↦ inr (found.0, found.1, raised image found.0 found.2)
      ]
      | inr (inl stands) ↦ inr (leave.kept.0, of_saved calls first kept leave.kept.0 leave.kept.1, lowered image leave.kept.0 stands)
      | inr (inr stands) ↦ inr (without_cursors last.state, of_all calls first last kept goes, lowered image (without_cursors last.state) stands)
    ]

    closed_or_not : (closed : Option D) → IfSome closed (LeavesOneOf d new.store.pager.limit leave.kept.0 (without_cursors last.state) new.store.pager.disk)
        → IfSome closed (λ closed. (start : D) (image : Content) → d.left_since start closed image
        → d.left_since start old.store.pager.disk image ⊎ ((state : State) × IsOfAFront calls first kept state × Stands GREATEST_LIMIT image state))
    closed_or_not None closing = tt
    closed_or_not (Some closed) closing = closed_after closed closing

    pub leaves_front_of : (result : Result D (Option D × Failure))
        → IfSome (disk_of result) (LeavesOneOf d new.store.pager.limit leave.kept.0 (without_cursors last.state) new.store.pager.disk)
        → LeavesFrontOf d GREATEST_LIMIT calls first kept old.store.pager.disk result
    leaves_front_of result closing = closed_or_not (disk_of result) closing

  -- and an opening before them
  module _ (calls : List Call) (first : Machine) (old opened : D) (stays : StaysFileOf d GREATEST_LIMIT first.state old opened) (on : IsTrue (d.keeps_crashes old)) where
    pub opened_before : (closed : Option D) → IfSome closed (λ closed. (start : D) (image : Content) → d.left_since start closed image
        → d.left_since start opened image ⊎ ((state : State) × IsOfAFront calls first first.state state × Stands GREATEST_LIMIT image state))
        → IfSome closed (λ closed. (start : D) (image : Content) → d.left_since start closed image
        → d.left_since start old image ⊎ (d.may_leave old image ⊎ ((state : State) × IsOfAFront calls first first.state state × Stands GREATEST_LIMIT image state)))
    opened_before None service = tt
    opened_before (Some closed) service = λ start image left. elim (service start image left) [
      | inl before ↦ elim (stays.meanwhile on start image before) [
        | inl earlier ↦ inl earlier
        | inr (inl was) ↦ inr (inl was)
        | inr (inr stands) ↦ inr (inr (first.state, inl refl, stands))
      ]
      | inr found ↦ inr (inr found)
    ]
