-- They are those of the state for which the engine stands.
use Rattle.std.proofs.Common.{ℕ, subst, sym}
use Rattle.std.proofs.lemmas.Result.{IfOk-weaker}
use Rattle.rs_answers.specs.Plans.{IsPlanFor}
use Rattle.rs_answers.specs.Present.{IsPresent}
use Rattle.rs_checker.specs.CheckedView.{query_of}
use Rattle.rs_engine.specs.Kept.{EngineState, IsMachine}
use Rattle.rs_engine.proofs.Filing.{engine_with}
use Rattle.rs_engine.proofs.engine.Engine.lines_of_checked.Goals as goal

pub returns-clause-lines : goal.returns-clause-lines
returns-clause-lines g c = λ machine is.
    let was = engine_with c.self.inside.live.store c.self.inside.live.oldest c.self.inside.cursors in
    let now = c.engine_stands_for_its_state.ensures.state was machine (subst (λ (e : EngineState g.row.D.Denot). IsMachine g.D.Disk e machine) (sym c.self.view_is) is) in
    let present = subst (λ (version : ℕ). IsPresent was.store.catalog was.store.referents machine.state (now.snapshots version)) (sym c.accepted-version.ensures) now.present in
    let means = subst (λ (e : EngineState g.row.D.Denot). IsPlanFor e.store.catalog (query_of c.args.checked.query) c.in_ok-plan.plan) (sym c.self.view_is) c.in_ok-plan.ensures.means in
    IfOk-weaker c.lines.result _ _ (λ rows are.
    are (query_of c.args.checked.query) means machine.state (record { snapshots = now.snapshots; is = now.shows; present = present })) c.lines.ensures.lines
