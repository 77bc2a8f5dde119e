-- The version that was accepted last sees the state of the machine.
use Rattle.std.proofs.Common.{◌≡◌, ◌∙◌, ℕ, ap, subst, sym}
use Rattle.std.specs.FinMap as names
use Rattle.rs_answers.specs.Versions.{LiesOnRoutes, lines_seen}
use Rattle.rs_checker.specs.CheckedView.{query_of}
use Rattle.rs_engine.specs.Kept.{EngineState, seen_at}
use Rattle.rs_machine.specs.Step.{lines_of}
use Rattle.rs_engine.proofs.engine.Engine.cursor_of.Goals as goal

pub returns-clause-lines : goal.returns-clause-lines
returns-clause-lines g c = λ machine is.
    let engine = c.args.self.now in
    let seen = seen_at is.stands.contents in
    let query = query_of c.args.checked.query in
    let now = c.engine_stands_for_its_state.ensures.seen engine machine is in
    let at : engine.store.file.accepted ≡ c.accepted.result = ap (λ (e : EngineState g.row.D.Denot). e.store.file.accepted) (sym c.self.view_is) ∙ sym c.accepted.ensures in
    subst (λ (version : ℕ). lines_seen (seen version) c.in_ok-plan.plan c.args.method (names.entries (seen version).routes) ≡ lines_of machine.state query c.args.method) at
    (c.present_version_has_the_lines_of_the_query.ensures.lines engine.store.catalog engine.store.referents machine.state (seen engine.store.file.accepted) now.defined now.present
    query c.in_ok-plan.plan c.in_ok-plan.ensures.means c.args.method)

pub returns-clause-lies : goal.returns-clause-lies
returns-clause-lies g c = λ machine is.
    let engine = c.args.self.now in
    let seen = seen_at is.stands.contents in
    let now = c.engine_stands_for_its_state.ensures.seen engine machine is in
    let at : engine.store.file.accepted ≡ c.accepted.result = ap (λ (e : EngineState g.row.D.Denot). e.store.file.accepted) (sym c.self.view_is) ∙ sym c.accepted.ensures in
    subst (λ (version : ℕ). LiesOnRoutes (seen version) c.in_ok-plan.plan) at
    (c.present_version_has_the_lines_of_the_query.ensures.lies engine.store.catalog engine.store.referents machine.state (seen engine.store.file.accepted) now.defined now.present
    (query_of c.args.checked.query) c.in_ok-plan.plan c.in_ok-plan.ensures.means)
