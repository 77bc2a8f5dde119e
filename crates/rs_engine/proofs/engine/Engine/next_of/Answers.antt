-- The cursor's version shows what the contents of the file have.
use Rattle.std.proofs.Common.{◌≡◌, ◌∙◌, Some, ap, refl, subst, sym}
use Rattle.std.proofs.lemmas.Result.{IfOk-weaker}
use Rattle.std.specs.FinMap as names
use Rattle.std.specs.Option.{option_copied}
use Rattle.std.specs.Prelude.{IfSome}
use Rattle.rs_cursor.specs.Held.{held_of}
use Rattle.rs_engine.specs.Ahead.{AreAhead, IsAheadOf, IsAmong}
use Rattle.rs_engine.specs.Kept.{EngineState, seen_at}
use Rattle.rs_engine.specs.Reads.{ShowsVersion}
use Rattle.rs_engine.specs.declared.engine.ahead.Ahead.{Ahead}
use Rattle.rs_engine.proofs.Aheads.{put_ahead, taken_kept}
use Rattle.rs_engine.proofs.CursorSteps.{gives_next}
use Rattle.rs_store_source.proofs.Results.{ok_always}
use Rattle.rs_engine.proofs.engine.Engine.next_of.Goals as goal

pub returns-clause-given : goal.returns-clause-given
returns-clause-given g c = λ machine is.
    let engine = c.args.self.now in
    let name = c.args.name.now.bytes in
    let cursor = c.in-Some.cursor.now in
    let versions = seen_at is.stands.contents in
    let there : names.get (held_of engine.cursors.held c.args.session) name ≡ Some cursor =
    ap (λ (e : EngineState g.row.D.Denot). names.get (held_of e.cursors.held c.args.session) name) (sym c.self.view_is) ∙ sym c.get.ensures ∙ ap option_copied c.in-Some.is in
    let live = is.live.each c.args.session name cursor there in
    let shows = subst (λ (e : EngineState g.row.D.Denot). ShowsVersion g.D.Disk e.oldest e.store cursor.version (versions cursor.version)) (sym c.self.view_is)
    (record { state = is.state; stands = is.stands; from = live.from; upto = live.upto; is = refl }) in
    let taken = taken_kept versions c.args.session name cursor engine.cursors there is.live.ahead c.take-kept.result
    (subst (λ (e : EngineState g.row.D.Denot). IfSome c.take-kept.result (IsAheadOf c.args.session name e.cursors.ahead)) c.self.view_is c.take-kept.ensures.kept) in
    gives_next versions engine.cursors.held c.args.session name c.args.rows cursor there c.next_lines-next.result
    (IfOk-weaker c.next_lines-next.result _ _ (λ next given. given versions shows live.lies taken) c.next_lines-next.ensures.given)
    (IfOk-weaker c.next_lines-next.result _ _ (λ next left. left versions shows live.lies taken) c.next_lines-next.ensures.left)

pub returns-clause-ahead : goal.returns-clause-ahead
returns-clause-ahead g c = λ machine is.
    let engine = c.args.self.now in
    let name = c.args.name.now.bytes in
    let cursor = c.in-Some.cursor.now in
    let versions = seen_at is.stands.contents in
    let there : names.get (held_of engine.cursors.held c.args.session) name ≡ Some cursor =
    ap (λ (e : EngineState g.row.D.Denot). names.get (held_of e.cursors.held c.args.session) name) (sym c.self.view_is) ∙ sym c.get.ensures ∙ ap option_copied c.in-Some.is in
    let live = is.live.each c.args.session name cursor there in
    let shows = subst (λ (e : EngineState g.row.D.Denot). ShowsVersion g.D.Disk e.oldest e.store cursor.version (versions cursor.version)) (sym c.self.view_is)
    (record { state = is.state; stands = is.stands; from = live.from; upto = live.upto; is = refl }) in
    let taken = taken_kept versions c.args.session name cursor engine.cursors there is.live.ahead c.take-kept.result
    (subst (λ (e : EngineState g.row.D.Denot). IfSome c.take-kept.result (IsAheadOf c.args.session name e.cursors.ahead)) c.self.view_is c.take-kept.ensures.kept) in
    let left = c.next_lines-next.ensures.keeps (versions cursor.version) shows live.lies taken in
    subst (λ (e : EngineState g.row.D.Denot). AreAhead versions (record { held = e.cursors.held; ahead = c.put.new.self })) (sym c.self.view_is)
    (put_ahead versions c.args.session name cursor engine.cursors there is.live.ahead c.next_lines-next.new.kept left c.take-kept.new.self c.put.new.self
    (subst (λ (e : EngineState g.row.D.Denot). (one : Ahead) → IsAmong c.take-kept.new.self one → IsAmong e.cursors.ahead one) c.self.view_is c.take-kept.ensures.others)
    c.put.ensures)

pub returns-clause-there : goal.returns-clause-there
returns-clause-there g c =
    let name = c.args.name.now.bytes in
    let there : names.get (held_of c.args.self.now.cursors.held c.args.session) name ≡ Some c.in-Some.cursor.now =
    ap (λ (e : EngineState g.row.D.Denot). names.get (held_of e.cursors.held c.args.session) name) (sym c.self.view_is) ∙ sym c.get.ensures ∙ ap option_copied c.in-Some.is in
    ok_always c.next_lines-next.result (record { cursor = c.in-Some.cursor.now; there = there })
