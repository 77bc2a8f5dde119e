-- The store keeps what it kept.
use Rattle.std.proofs.Common.{[], Ok, refl, subst}
use Rattle.std.proofs.lemmas.Result.{err_from_is_err_and}
use Rattle.rs_engine.specs.Files.{Saves}
use Rattle.rs_engine.specs.Kept.{EngineState}
use Rattle.rs_engine.specs.Serving.{Serves}
use Rattle.rs_engine.proofs.Filing.{engine_with, names_a_want, saves_by, served_same, stays}
use Rattle.rs_engine.proofs.Staying.{leaves_saved, leaves_unsaved}
use Rattle.rs_machine.specs.Served.{done, refused}
use Rattle.rs_machine.specs.State.{State}
use Rattle.rs_machine.specs.Step.{counted}
use Rattle.rs_engine.proofs.engine.Engine.save.Goals as goal

pub returns-in_err-save-clause-serves : goal.returns-in_err-save-clause-serves
returns-in_err-save-clause-serves g c =
    let d = g.D.Disk in
    let was = engine_with c.self.inside.live.store c.self.inside.live.oldest c.self.inside.cursors in
    let now = engine_with c.save.new.self c.self.inside.live.oldest c.self.inside.cursors in
    let why = c.in_err-save.field-0.0 in
    let p = err_from_is_err_and c.from_residual.result c.from_residual.ensures.1 in
    rw (p.1, p.2) (subst (λ (e : EngineState g.row.D.Denot). Serves d (λ (state : State). Ok (counted 0 state)) (refused why) e now) c.self.view_is
    (λ machine is. names_a_want d was now machine is
    (stays d was now machine is c.in_err-save.ensures.keeps.contents c.in_err-save.ensures.keeps.full c.in_err-save.ensures.keeps.limit refl refl) (Ok (counted 0 machine.state)) why
    c.in_err-save.ensures.count c.in_err-save.ensures.refused))

pub returns-clause-serves : goal.returns-clause-serves
returns-clause-serves g c =
    let d = g.D.Disk in
    let was = engine_with c.self.inside.live.store c.self.inside.live.oldest c.self.inside.cursors in
    let now = engine_with c.save.new.self c.self.inside.live.oldest c.self.inside.cursors in
    subst (λ (e : EngineState g.row.D.Denot). Serves d (λ (state : State). Ok (counted 0 state)) (done [] 0) e now) c.self.view_is
    (λ machine is. served_same d was now machine is (stays d was now machine is c.save.ensures.keeps.contents c.save.ensures.keeps.full c.save.ensures.keeps.limit refl refl) c.in_ok-save.ensures.count)

pub returns-clause-saves : goal.returns-clause-saves
returns-clause-saves g c =
    let d = g.D.Disk in
    let was = engine_with c.self.inside.live.store c.self.inside.live.oldest c.self.inside.cursors in
    let now = engine_with c.save.new.self c.self.inside.live.oldest c.self.inside.cursors in
    subst (λ (e : EngineState g.row.D.Denot). Saves d (Ok 0) e now) c.self.view_is
    (saves_by d was now 0 c.in_ok-save.ensures.saves c.save.ensures.keeps.honesty c.save.ensures.keeps.limit)

pub returns-in_err-save-clause-leaves : goal.returns-in_err-save-clause-leaves
returns-in_err-save-clause-leaves g c = leaves_unsaved g.D.Disk c.self.view_is c.in_err-save.ensures.keeps c.in_err-save.ensures.changes (refl, refl) c.from_residual.result

pub returns-clause-leaves : goal.returns-clause-leaves
returns-clause-leaves g c = leaves_saved g.D.Disk c.self.view_is c.save.ensures.keeps refl
