-- The store stands in the same state, and there are no cursors.
use Rattle.std.proofs.Common.{[], Ok, Err, ap, arith, inl, inr, refl, subst}
use Rattle.std.proofs.lemmas.Result.{err_from_is_err_and}
use Rattle.rs_engine.specs.Files.{Saves}
use Rattle.rs_engine.specs.Kept.{EngineState}
use Rattle.rs_engine.specs.Serving.{Serves}
use Rattle.rs_engine.specs.Staying.{StaysAsItWas}
use Rattle.rs_engine.proofs.Filing.{engine_with, names_a_want, saves_by, served_anew, stays}
use Rattle.rs_engine.proofs.Staying.{stays_unread}
use Rattle.rs_machine.specs.Served.{done, refused}
use Rattle.rs_machine.specs.State.{State}
use Rattle.rs_machine.specs.Step.{counted, without_cursors}
use Rattle.rs_store_source.proofs.Results.{err_always}
use Rattle.rs_syntax.specs.Tree.{reopen}
use Rattle.rs_engine.proofs.engine.Engine.reopen.Goals as goal

pub returns-in_err-reopen-clause-serves : goal.returns-in_err-reopen-clause-serves
returns-in_err-reopen-clause-serves g c =
    let d = g.D.Disk in
    let was = engine_with c.self.inside.live.store c.self.inside.live.oldest c.self.inside.cursors in
    let now = engine_with c.reopen.new.self c.self.inside.live.oldest c.self.inside.cursors in
    let why = c.in_err-reopen.field-0.0 in
    let p = err_from_is_err_and c.from_residual.result c.from_residual.ensures.1 in
    rw (p.1, p.2) (subst (λ (e : EngineState g.row.D.Denot). Serves d (λ (state : State). Ok (counted 0 (without_cursors state))) (refused why) e now) c.self.view_is
    (λ machine is. names_a_want d was now machine is
    (stays d was now machine is c.in_err-reopen.ensures.reopens.stays c.in_err-reopen.ensures.reopens.full c.in_err-reopen.ensures.reopens.limit refl refl) (Ok (counted 0 (without_cursors machine.state))) why
    c.in_err-reopen.ensures.count
    (elim c.in_err-reopen.ensures.refused [
      | inl memory ↦ inl memory
      | inr (inl failed) ↦ inr failed
      | inr (inr damaged) ↦ absurd (c.in_err-reopen.ensures.reopens.sound was.oldest is.state is.stands (ap Err damaged))
    ])))

pub returns-clause-serves : goal.returns-clause-serves
returns-clause-serves g c =
    let d = g.D.Disk in
    let was = engine_with c.self.inside.live.store c.self.inside.live.oldest c.self.inside.cursors in
    let now = engine_with c.reopen.new.self c.accepted-self-inside.result (record { held = c.close_all.new.self; ahead = c.clear.new.self }) in
    subst (λ (e : EngineState g.row.D.Denot). Serves d (λ (state : State). Ok (counted 0 (without_cursors state))) (done [] 0) e now) c.self.view_is
    (λ machine is. served_anew d was now machine is
    (c.accepted_step_leaves_the_state_lawful.ensures machine.state 0 reopen (counted 0 (without_cursors machine.state)) (omega arith) tt is.lawful refl)
    (c.in_ok-reopen.ensures.reopens.state was.oldest is.state is.stands) c.in_ok-reopen.ensures.reopens.full c.in_ok-reopen.ensures.reopens.limit c.in_ok-reopen.ensures.count c.close_all.ensures.held c.accepted-self-inside.ensures)

pub returns-clause-saves : goal.returns-clause-saves
returns-clause-saves g c =
    let d = g.D.Disk in
    let was = engine_with c.self.inside.live.store c.self.inside.live.oldest c.self.inside.cursors in
    let now = engine_with c.reopen.new.self c.accepted-self-inside.result (record { held = c.close_all.new.self; ahead = c.clear.new.self }) in
    subst (λ (e : EngineState g.row.D.Denot). Saves d (Ok tt) e now) c.self.view_is
    (saves_by d was now tt c.in_ok-reopen.ensures.saves c.in_ok-reopen.ensures.reopens.honesty c.in_ok-reopen.ensures.reopens.limit)

pub returns-in_err-reopen-clause-stays : goal.returns-in_err-reopen-clause-stays
returns-in_err-reopen-clause-stays g c =
    let d = g.D.Disk in
    let was = engine_with c.self.inside.live.store c.self.inside.live.oldest c.self.inside.cursors in
    let now = engine_with c.reopen.new.self c.self.inside.live.oldest c.self.inside.cursors in
    err_always c.from_residual.result (subst (λ (e : EngineState g.row.D.Denot). StaysAsItWas d e now) c.self.view_is (stays_unread d was now c.in_err-reopen.ensures.reopens refl refl))

pub returns-clause-none : goal.returns-clause-none
returns-clause-none g c = c.close_all.ensures.held
