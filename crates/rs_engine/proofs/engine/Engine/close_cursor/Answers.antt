-- The cursor goes, is not there, or records can't be cleared.
use Rattle.std.proofs.Common.{[], inr, refl, subst, sym, ℕ}
use Rattle.std.proofs.lemmas.Result.{err_from_is_err_and}
use Rattle.std.specs.FinMap as names
use Rattle.rs_cursor.specs.Held.{IsOldest, held_at, held_of, lines_left}
use Rattle.rs_engine.specs.Kept.{EngineState, seen_at}
use Rattle.rs_engine.specs.Clearing.{ByClose, ServesClearing}
use Rattle.rs_engine.specs.Staying.{StaysOnAnyDisk}
use Rattle.rs_engine.proofs.Clearing.{refused_clearing}
use Rattle.rs_engine.proofs.CursorSteps.{close_none, close_refused, closed, cursors_are}
use Rattle.rs_engine.proofs.Filing.{engine_with}
use Rattle.rs_engine.proofs.Reading.{refused_at_once}
use Rattle.rs_engine.proofs.Staying.{stays_at_once, stays_uncleared}
use Rattle.rs_machine.specs.Served.{done, refused}
use Rattle.rs_machine.specs.State.{State}
use Rattle.rs_machine.specs.Step.{cursor_closed}
use Rattle.rs_refusal.specs.declared.refusal.Refusal.TheVariants.{NoSuchCursor}
use Rattle.rs_syntax.specs.Tree as tree
use Rattle.rs_engine.proofs.engine.Engine.close_cursor.Goals as goal

pub returns-then-not-has : goal.returns-then-not-has
returns-then-not-has g c = record {
  serves =
      let d = g.D.Disk in
      let name = c.args.name.now.bytes in
      let was = engine_with c.self.inside.live.store c.self.inside.live.oldest c.self.inside.cursors in
      subst (λ (e : EngineState g.row.D.Denot). ServesClearing d ByClose (λ (state : State). cursor_closed state c.args.session name) (refused NoSuchCursor) e e) c.self.view_is
      (λ machine is. refused_clearing d (refused_at_once d was machine is (cursor_closed machine.state c.args.session name) NoSuchCursor
      (inr (close_none machine.state (lines_left (seen_at is.stands.contents)) was.cursors.held (cursors_are d was machine is) c.args.session name (sym (c.if-not-has.ensures (lines_left (seen_at is.stands.contents))))))));
  stays = subst (λ (e : EngineState g.row.D.Denot). StaysOnAnyDisk g.D.Disk c.args.session (tree.close_cursor c.args.name.now.bytes) (refused NoSuchCursor) e e) c.self.view_is
      (stays_at_once g.D.Disk c.args.session (tree.close_cursor c.args.name.now.bytes) (engine_with c.self.inside.live.store c.self.inside.live.oldest c.self.inside.cursors) NoSuchCursor tt);
}

pub returns-in_err-release : goal.returns-in_err-release
returns-in_err-release g c =
    let d = g.D.Disk in
    let name = c.args.name.now.bytes in
    let was = engine_with c.self.inside.live.store c.self.inside.live.oldest c.self.inside.cursors in
    let now = engine_with c.release.new.self c.self.inside.live.oldest c.self.inside.cursors in
    let why = c.in_err-release.field-0.0 in
    let p = err_from_is_err_and c.from_residual.result c.from_residual.ensures.1 in
    rw (p.1, p.2) (record {
      serves = subst (λ (e : EngineState g.row.D.Denot). ServesClearing d ByClose (λ (state : State). cursor_closed state c.args.session name) (refused why) e now) c.self.view_is
          (λ machine is. close_refused d c.accepted_step_leaves_the_state_lawful.ensures was machine is c.args.session c.session_is_in_range.ensures name c.stores_have_their_laws.ensures c.requires.sound now why
          c.in_err-release.ensures.leaves (refl, refl));
      stays = subst (λ (e : EngineState g.row.D.Denot). StaysOnAnyDisk d c.args.session (tree.close_cursor name) (refused why) e now) c.self.view_is
          (record {
            refused = stays_uncleared d was now c.in_err-release.ensures.leaves refl refl;
            cursors = tt;
            changes = tt;
            lasts = c.in_err-release.ensures.leaves.lasts;
            limit = c.in_err-release.ensures.leaves.limit;
          });
    })

pub returns : goal.returns
returns g c = record {
  serves =
      let d = g.D.Disk in
      let name = c.args.name.now.bytes in
      let was = engine_with c.self.inside.live.store c.self.inside.live.oldest c.self.inside.cursors in
      let least = subst (λ (most : ℕ). IsOldest (held_at c.args.session (names.remove (held_of was.cursors.held c.args.session) name) (held_of was.cursors.held)) most c.oldest_without-oldest.result) c.accepted-accepted.ensures c.oldest_without-oldest.ensures in
      let now = engine_with c.release.new.self c.oldest_without-oldest.result (record { held = c.close.new.self; ahead = c.forget.new.self }) in
      subst (λ (e : EngineState g.row.D.Denot). ServesClearing d ByClose (λ (state : State). cursor_closed state c.args.session name) (done [] 0) e now) c.self.view_is
      (λ machine is. closed d c.accepted_step_leaves_the_state_lawful.ensures was machine is c.args.session c.session_is_in_range.ensures name c.stores_have_their_laws.ensures c.requires.sound now
      (sym (c.if-not-has.ensures (lines_left (seen_at is.stands.contents)))) c.oldest_without-oldest.result c.in_ok-release.field-0 least
      (c.in_ok-release.ensures.releases was.oldest is.state is.stands) c.in_ok-release.ensures.leaves refl c.forget.ensures c.close.ensures);
  stays =
      let was = engine_with c.self.inside.live.store c.self.inside.live.oldest c.self.inside.cursors in
      let now = engine_with c.release.new.self c.oldest_without-oldest.result (record { held = c.close.new.self; ahead = c.forget.new.self }) in
      subst (λ (e : EngineState g.row.D.Denot). StaysOnAnyDisk g.D.Disk c.args.session (tree.close_cursor c.args.name.now.bytes) (done [] 0) e now) c.self.view_is
      (record { refused = tt; cursors = c.close.ensures; changes = tt; lasts = c.in_ok-release.ensures.leaves.lasts; limit = c.in_ok-release.ensures.leaves.limit });
}
