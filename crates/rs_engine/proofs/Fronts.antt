-- Step by step, a crash leaves the state after a front of the calls.
use Rattle.std.proofs.Common.{◌≡◌, ◌⊎◌, ◌≤◌, ◌∙◌, ℕ, IsTrue, List, [], ◌∷◌, ap, inl, inr, refl, subst, sym}
use Rattle.std.proofs.lemmas.List.{append-nil}
use Rattle.rs_disk.specs.Content.{Content}
use Rattle.rs_disk.specs.declared.disk.Disk as disk
use Rattle.rs_engine.proofs.Filing.{without}
use Rattle.rs_engine.specs.Crashes.{AreSteps, BecomesBySteps, Call, ComeTo, GoThrough, HoldsAllSaved, IsAfterFront, IsOfAFront, IsStep, LeaveAFront}
use Rattle.rs_engine.specs.Files.{WhereSaved}
use Rattle.rs_engine.specs.Kept.{EngineState, IsMachine}
use Rattle.rs_engine.specs.Single.{IsOneMachine}
use Rattle.rs_machine.specs.Served.{Machine, Reply, Served, done}
use Rattle.rs_machine.specs.State.{RowText, State}
use Rattle.rs_machine.specs.Step.{without_cursors}
use Rattle.rs_pager.specs.Lasts.{Lasts}
use Rattle.rs_store_source.proofs.Enduring.{image_stands, last_later, leaves_one, stand_within}
use Rattle.rs_store_source.specs.Lasting.{IsLast, LeavesOneOf}
use Rattle.rs_store_source.specs.Standing.{Stands}
use Rattle.rs_syntax.specs.Tree.{CommandTree, reopen, save}

-- ---- what one call keeps

-- A state is kept after a call: the one after it, or, where it was no SAVE or REOPEN that was accepted, the one kept before or the one
-- before it.
abbrev KeptAfter : (P : State → Type 0) (tree : CommandTree) (reply : Reply) (first next : Machine) (last : State) → Type 0
KeptAfter P tree reply first next last = (state : State) × P state
    × ((state ≡ without_cursors next.state) ⊎ (WhereSaved tree reply ⊥ × ((state ≡ last) ⊎ (state ≡ without_cursors first.state))))

saved_state : (first next : Machine) (session : ℕ) (rows : List RowText) (count : ℕ) → Served first session save (done rows count) next → next.state ≡ first.state
saved_state first next session rows count (inl answers) = answers.1
saved_state first next session rows count (inr wants) = wants.0.state

reopened_state : (first next : Machine) (session : ℕ) (rows : List RowText) (count : ℕ) → Served first session reopen (done rows count) next
    → without_cursors next.state ≡ without_cursors first.state
reopened_state first next session rows count (inl answers) = ap without_cursors answers.1
reopened_state first next session rows count (inr wants) = ap without_cursors wants.0.state

kept_after : (P : State → Type 0) (tree : CommandTree) (reply : Reply) (session : ℕ) (first next : Machine) (last : State) → Served first session tree reply next
    → WhereSaved tree reply (P (without_cursors first.state)) → P last ⊎ P (without_cursors first.state) → KeptAfter P tree reply first next last
kept_after P save (done rows count) session first next last served saved kept =
    (without_cursors first.state, saved, inl (ap without_cursors (sym (saved_state first next session rows count served))))
kept_after P reopen (done rows count) session first next last served saved kept =
    (without_cursors first.state, saved, inl (sym (reopened_state first next session rows count served)))
kept_after P tree reply session first next last served saved (inl kept) = (last, kept, inr (tt, inl refl))
kept_after P tree reply session first next last served saved (inr kept) = (without_cursors first.state, kept, inr (tt, inr refl))

-- ---- fronts of calls

module _ (call : Call) (calls : List Call) (first next : Machine) (served : Served first call.session call.command call.reply next) where
  longer : (rest : List Call) (state : State) → IsAfterFront calls rest next state → IsAfterFront (call ∷ calls) rest first state
  longer rest state after = record {
    front = call ∷ after.front;
    are = ap (λ (list : List Call). call ∷ list) after.are;
    machine = after.machine;
    goes = (next, served, after.goes);
    is = after.is;
  }

  after_one : (state : State) → state ≡ without_cursors next.state → IsAfterFront (call ∷ calls) calls first state
  after_one state is = record { front = call ∷ []; are = refl; machine = next; goes = (next, served, refl); is = is }

  after_none : (state : State) → state ≡ without_cursors first.state → IsAfterFront (call ∷ calls) (call ∷ calls) first state
  after_none state is = record { front = []; are = refl; machine = first; goes = refl; is = is }

  -- what was kept after the call, and then after the others
  module _ (last kept : State)
      (how : (kept ≡ without_cursors next.state) ⊎ (WhereSaved call.command call.reply ⊥ × ((kept ≡ last) ⊎ (kept ≡ without_cursors first.state)))) where
    of_front : (state : State) → IsOfAFront calls next kept state → IsOfAFront (call ∷ calls) first last state
    of_front state (inr after) = inr (after.0, longer after.0 state after.1)
    of_front state (inl same) = elim how [
      | inl is ↦ inr (calls, after_one state (same ∙ is))
      | inr (none, inl is) ↦ inl (same ∙ is)
      | inr (none, inr is) ↦ inr (call ∷ calls, after_none state (same ∙ is))
    ]

    holds_saved : (state : State) → HoldsAllSaved calls next kept state → HoldsAllSaved (call ∷ calls) first last state
    holds_saved state (inr after) = inr (after.0, after.1, longer after.0 state after.2)
    holds_saved state (inl same) = elim how [
      | inl is ↦ inr (calls, same.1, after_one state (same.0 ∙ is))
      | inr (none, inl is) ↦ inl (same.0 ∙ is, (none, same.1))
      | inr (none, inr is) ↦ inr (call ∷ calls, (none, same.1), after_none state (same.0 ∙ is))
    ]

-- ---- engines

module _ {D : Type 0} (d : disk.Ghosts D) where
  -- one call
  pub call_leaves : (old new : EngineState D) (machine : Machine) (last : State) → IsMachine d old machine → IsLast d old.store.pager last
      → Lasts d old.store.pager new.store.pager → old.store.pager.committed_fields.pages ≤ old.store.pager.limit → IsTrue (d.keeps_crashes old.store.pager.disk)
      → LeavesOneOf d old.store.pager.limit last (without_cursors machine.state) old.store.pager.disk new.store.pager.disk
  call_leaves old new machine last is kept lasts within on =
      let was = old.store.pager in
      subst (λ (state : State). LeavesOneOf d was.limit last state was.disk new.store.pager.disk) (sym (without d old machine is))
      (leaves_one d was new.store.pager lasts is.stands.keeps.tied last is.state kept (stand_within d old.oldest old.store is.state is.stands was.limit within) on)

  pub call_keeps : (old new : EngineState D) (machine : Machine) (last : State) → IsMachine d old machine → IsLast d old.store.pager last
      → Lasts d old.store.pager new.store.pager → old.store.pager.committed_fields.pages ≤ old.store.pager.limit → new.store.pager.limit ≡ old.store.pager.limit
      → IsLast d new.store.pager last ⊎ IsLast d new.store.pager (without_cursors machine.state)
  call_keeps old new machine last is kept lasts within same =
      let was = old.store.pager in
      subst (λ (state : State). IsLast d new.store.pager last ⊎ IsLast d new.store.pager state) (sym (without d old machine is))
      (last_later d was new.store.pager lasts is.stands.keeps.tied last is.state kept (stand_within d old.oldest old.store is.state is.stands was.limit within) same)

  -- the engine after calls, and what is kept of it
  record Fronts (calls : List Call) (first : Machine) (last : State) (old new : EngineState D) : Type 0 where
    pub meanwhile : (start : D) (image : Content) → d.left_since start new.store.pager.disk image
        → d.left_since start old.store.pager.disk image ⊎ ((state : State) × IsOfAFront calls first last state × Stands old.store.pager.limit image state)
    pub state : State
    pub holds : HoldsAllSaved calls first last state
    pub kept : IsLast d new.store.pager state
    pub machine : Machine
    pub is : IsOneMachine d new machine
    pub goes : GoThrough calls first machine
    pub limit : new.store.pager.limit ≡ old.store.pager.limit
    pub keeping : d.keeps_crashes new.store.pager.disk ≡ d.keeps_crashes old.store.pager.disk

  -- the calls after one
  front_on : (call : Call) (calls : List Call) (old between new : EngineState D) (first next : Machine) (last : State) → IsStep d call old between
      → Served first call.session call.command call.reply next → IsOneMachine d old first → IsLast d old.store.pager last → IsTrue (d.keeps_crashes old.store.pager.disk)
      → KeptAfter (IsLast d between.store.pager) call.command call.reply first next last
      → ((state : State) → IsLast d between.store.pager state → Fronts calls next state between new) → Fronts (call ∷ calls) first last old new
  front_on call calls old between new first next last step served is kept on after others =
      let rest = others after.0 after.1 in
      record {
        meanwhile = λ start image left. elim (rest.meanwhile start image left) [
          | inl before ↦ elim (call_leaves old between first last is.is kept step.stays.lasts step.within on start image before) [
            | inl earlier ↦ inl earlier
            | inr (inl stands) ↦ inr (last, inl refl, stands)
            | inr (inr stands) ↦
                inr (without_cursors first.state, inr (call ∷ calls, after_none call calls first next served (without_cursors first.state) refl), stands)
          ]
          | inr found ↦ inr (
            found.0,
            of_front call calls first next served last after.0 after.2 found.0 found.1,
            subst (λ (limit : ℕ). Stands limit image found.0) step.stays.limit found.2,
          )
        ];
        state = rest.state;
        holds = holds_saved call calls first next served last after.0 after.2 rest.state rest.holds;
        kept = rest.kept;
        machine = rest.machine;
        is = rest.is;
        goes = (next, served, rest.goes);
        limit = rest.limit ∙ step.stays.limit;
        keeping = rest.keeping ∙ step.stays.lasts.keeping;
      }

  steps_front : (calls : List Call) (old new : EngineState D) (first : Machine) (last : State) → AreSteps d calls old new → IsOneMachine d old first → IsLast d old.store.pager last
      → IsTrue (d.keeps_crashes old.store.pager.disk) → Fronts calls first last old new
  steps_front [] old new first last same is kept on =
      subst (λ (engine : EngineState D). Fronts [] first last old engine) (sym same)
      (record {
        meanwhile = λ start image left. inl left;
        state = last;
        holds = inl (refl, tt);
        kept = kept;
        machine = first;
        is = is;
        goes = refl;
        limit = refl;
        keeping = refl;
      })
  steps_front (call ∷ calls) old new first last steps is kept on =
      let between = steps.0 in
      let step = steps.1 in
      let next = step.served first is in
      let after : KeptAfter (IsLast d between.store.pager) call.command call.reply first next.0 last
      = kept_after (IsLast d between.store.pager) call.command call.reply call.session first next.0 last next.2 (step.saved.last first is.is)
      (call_keeps old between first last is.is kept step.stays.lasts step.within step.stays.limit) in
      front_on call calls old between new first next.0 last step next.2 is kept on after
      (λ state kept_now. steps_front calls between new next.0 state steps.2 next.1 kept_now (subst IsTrue (sym step.stays.lasts.keeping) on))

  pub leave_a_front : (calls : List Call) (old new : EngineState D) (first : Machine) (last : State) → AreSteps d calls old new → IsOneMachine d old first
      → IsLast d old.store.pager last → IsTrue (d.keeps_crashes old.store.pager.disk) → LeaveAFront d calls first last old new
  leave_a_front calls old new first last steps is kept on =
      let after = steps_front calls old new first last steps is kept on in
      let now = new.store.pager in
      let present = after.is.is in
      record {
        meanwhile = after.meanwhile;
        kept = (after.state, after.holds, after.kept);
        images = λ within image left. elim (image_stands d now after.state present.state after.kept
            (stand_within d new.oldest new.store present.state present.stands now.limit within) (subst IsTrue (sym after.keeping) on) image left) [
              | inl stands ↦ (after.state, after.holds, subst (λ (limit : ℕ). Stands limit image after.state) after.limit stands)
              | inr stands ↦ (
                without_cursors after.machine.state,
                inr ([], tt, record { front = calls; are = sym (append-nil calls); machine = after.machine; goes = after.goes; is = refl }),
                subst (λ (limit : ℕ). Stands limit image (without_cursors after.machine.state)) after.limit
                    (subst (λ (state : State). Stands now.limit image state) (sym (without d new after.machine present)) stands),
              )
            ];
      }

  -- ---- steps

  pub come_to : (calls : List Call) (old new : EngineState D) (first : Machine) → AreSteps d calls old new → IsOneMachine d old first → ComeTo d calls first old new
  come_to [] old new first same is =
      subst (λ (engine : EngineState D). ComeTo d [] first old engine) (sym same) (record { machine = first; is = is; goes = refl; limit = refl; keeping = refl })
  come_to (call ∷ calls) old new first steps is =
      let step = steps.1 in
      let next = step.served first is in
      let rest = come_to calls steps.0 new next.0 steps.2 next.1 in
      record {
        machine = rest.machine;
        is = rest.is;
        goes = (next.0, next.2, rest.goes);
        limit = rest.limit ∙ step.stays.limit;
        keeping = rest.keeping ∙ step.stays.lasts.keeping;
      }

  pub one_step : (call : Call) (old new : EngineState D) → IsStep d call old new → BecomesBySteps d old new
  one_step call old new step = (call ∷ [], (new, step, refl))
