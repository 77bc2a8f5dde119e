-- The query is refused by its checks, memory is wanting, or the cursor is opened.
use Rattle.std.proofs.Common.{◌≡◌, [], refl, subst, sym}
use Rattle.std.proofs.lemmas.Result.{err_from_is_err_and}
use Rattle.std.specs.FinMap as names
use Rattle.rs_checker.specs.CheckedView.{query_of}
use Rattle.rs_cursor.specs.Held.{held_at, held_of}
use Rattle.rs_engine.specs.Kept.{EngineState}
use Rattle.rs_engine.specs.Serving.{IsServed, Serves}
use Rattle.rs_engine.specs.Staying.{StaysOnAnyDisk}
use Rattle.rs_engine.proofs.Aheads.{none_kept}
use Rattle.rs_engine.proofs.CursorSteps.{opened}
use Rattle.rs_engine.proofs.Filing.{engine_with}
use Rattle.rs_engine.proofs.Machines.{wanting_memory}
use Rattle.rs_engine.proofs.Reading.{refused_at_once}
use Rattle.rs_engine.proofs.Staying.{open_opens, open_stays, stays_at_once}
use Rattle.rs_machine.specs.Served.{done, refused}
use Rattle.rs_machine.specs.State.{State}
use Rattle.rs_machine.specs.Step.{cursor_opened, lines_of}
use Rattle.rs_refusal.specs.declared.refusal.Refusal.TheVariants.{OutOfMemory}
use Rattle.rs_store_source.proofs.HeldChanges.{changes-refl}
use Rattle.rs_syntax.specs.QueryView.{query_tree}
use Rattle.rs_syntax.specs.Tree as tree
use Rattle.rs_engine.proofs.engine.Engine.open_cursor.Goals as goal

pub returns-in_err-checked : goal.returns-in_err-checked
returns-in_err-checked g c =
    let why = c.in_err-checked.field-0.0 in
    let p = err_from_is_err_and c.from_residual.result c.from_residual.ensures.1 in
    rw (p.1, p.2) (record {
      serves = λ machine is.
          refused_at_once g.D.Disk c.args.self.now machine is (cursor_opened machine.state c.args.session c.args.name.bytes (query_tree c.args.query.now) c.args.method) why (c.in_err-checked.ensures.refused machine is);
      stays = stays_at_once g.D.Disk c.args.session (tree.open_cursor c.args.name.bytes (query_tree c.args.query.now) c.args.method) c.args.self.now why (changes-refl c.args.self.now.store.pager);
    })

pub returns-in_err-cursor : goal.returns-in_err-cursor
returns-in_err-cursor g c =
    let p = err_from_is_err_and c.from_residual-in_err-cursor.result c.from_residual-in_err-cursor.ensures.1 in
    rw (p.1, p.2) (record {
      serves = λ machine is. wanting_memory g.D.Disk c.args.self.now c.args.self.now machine is refl (cursor_opened machine.state c.args.session c.args.name.bytes (query_tree c.args.query.now) c.args.method);
      stays = stays_at_once g.D.Disk c.args.session (tree.open_cursor c.args.name.bytes (query_tree c.args.query.now) c.args.method) c.args.self.now OutOfMemory (changes-refl c.args.self.now.store.pager);
    })

pub returns-in_err-open : goal.returns-in_err-open
returns-in_err-open g c =
    let d = g.D.Disk in
    let was = engine_with c.self.inside.live.store c.self.inside.live.oldest c.self.inside.cursors in
    let now = engine_with was.store was.oldest (record { held = c.open.new.self; ahead = was.cursors.ahead }) in
    let p = err_from_is_err_and c.from_residual-in_err-open.result c.from_residual-in_err-open.ensures.1 in
    rw (p.1, p.2) (record {
      serves = subst (λ (e : EngineState g.row.D.Denot). Serves d (λ (state : State). cursor_opened state c.args.session c.args.name.bytes (query_tree c.args.query.now) c.args.method) (refused OutOfMemory) e now) c.self.view_is
          (λ machine is. wanting_memory d was now machine is (λ i. engine_with was.store was.oldest (record { held = c.in_err-open.ensures.err i; ahead = was.cursors.ahead }))
          (cursor_opened machine.state c.args.session c.args.name.bytes (query_tree c.args.query.now) c.args.method));
      stays = subst (λ (e : EngineState g.row.D.Denot). StaysOnAnyDisk d c.args.session (tree.open_cursor c.args.name.bytes (query_tree c.args.query.now) c.args.method) (refused OutOfMemory) e now) c.self.view_is
          (open_stays d c.args.session c.args.name.bytes (query_tree c.args.query.now) c.args.method OutOfMemory was c.open.new.self c.in_err-open.ensures.err);
    })

pub returns : goal.returns
returns g c =
    let d = g.D.Disk in
    let name = c.args.name.bytes in
    let query = query_tree c.args.query.now in
    let cursor = c.in_ok-cursor.cursor in
    let now = c.open.new.self in
    let put = subst (λ (e : EngineState g.row.D.Denot). held_of now ≡ held_at c.args.session (names.insert (held_of e.cursors.held c.args.session) name cursor) (held_of e.cursors.held)) c.self.view_is c.in_ok-open.ensures.ok in
    record {
      serves = λ machine is.
          let asked = cursor_opened machine.state c.args.session name query c.args.method in
          subst (λ (e : EngineState g.row.D.Denot). IsServed d asked machine (done [] 0) (engine_with e.store e.oldest (record { held = now; ahead = c.clear.new.self }))) (sym c.self.view_is)
          (opened d c.accepted_step_leaves_the_state_lawful.ensures c.args.self.now machine is c.args.session c.session_is_in_range.ensures name query c.args.method c.requires.sound now c.clear.new.self cursor
          (lines_of machine.state (query_of c.in_ok-checked.checked.query) c.args.method) c.in_ok-cursor.ensures.version (c.in_ok-cursor.ensures.lies machine is) (c.in_ok-cursor.ensures.lines machine is)
          (c.in_ok-checked.ensures.accepted machine is) put
          (λ one kept. absurd (none_kept c.clear.new.self c.clear.ensures one kept)) (λ one kept of. none_kept c.clear.new.self c.clear.ensures one kept));
      stays = subst (λ (e : EngineState g.row.D.Denot).
          StaysOnAnyDisk d c.args.session (tree.open_cursor name query c.args.method) (done [] 0) c.args.self.now (engine_with e.store e.oldest (record { held = now; ahead = c.clear.new.self }))) (sym c.self.view_is)
          (open_opens d c.args.session name query c.args.method c.args.self.now now c.clear.new.self cursor c.in_ok-cursor.ensures.method c.in_ok-cursor.ensures.version c.in_ok-cursor.ensures.start c.clear.ensures put);
    }
