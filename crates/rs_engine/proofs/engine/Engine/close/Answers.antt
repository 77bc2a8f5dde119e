-- The disk of the store that was put away, or the store that keeps what it kept.
use Rattle.std.proofs.Common.{Ok, Err, refl, subst, sym}
use Rattle.rs_engine.specs.Files.{Closes, IsDurable}
use Rattle.rs_engine.specs.Kept.{EngineState}
use Rattle.rs_engine.proofs.Filing.{engine_with, stays, without}
use Rattle.rs_machine.specs.State.{State}
use Rattle.rs_store_source.specs.Lasting.{LeavesOneOf}
use Rattle.rs_store_source.specs.Standing.{IsSecondFileOf, Stands}
use Rattle.rs_engine.proofs.engine.Engine.close.Goals as goal

pub returns-in-Ok-clause-closes : goal.returns-in-Ok-clause-closes
returns-in-Ok-clause-closes g c =
    let d = g.D.Disk in
    let was = engine_with c.self.inside.live.store c.self.inside.live.oldest c.self.inside.cursors in
    subst (λ (e : EngineState g.row.D.Denot). Closes d e (Ok c.in-Ok.disk)) c.self.view_is (record {
      stands = λ machine is. subst (λ (state : State). Stands was.store.pager.limit (d.seen c.in-Ok.disk) state) (sym (without d was machine is))
          (c.in-Ok.ensures.closes.stands was.oldest is.state is.stands);
      second = λ machine is. subst (λ (state : State). IsSecondFileOf was.store.pager.limit (d.seen c.in-Ok.disk) state) (sym (without d was machine is))
          (c.in-Ok.ensures.closes.second was.oldest is.state is.stands);
      durable = λ machine is. subst (λ (state : State). IsDurable d was.store.pager.limit state c.in-Ok.disk) (sym (without d was machine is))
          (c.in-Ok.ensures.closes.durable was.oldest is.state is.stands);
      meanwhile = λ machine last is kept on within.
          subst (λ (state : State). LeavesOneOf d was.store.pager.limit last state was.store.pager.disk c.in-Ok.disk) (sym (without d was machine is))
          (c.in-Ok.ensures.closes.meanwhile was.oldest is.state last is.stands kept on within);
      keeping = c.in-Ok.ensures.closes.keeping;
      stays = λ machine is. tt;
      lasts = tt;
      cursors = tt;
      honesty = c.in-Ok.ensures.closes.honesty;
      limit = tt;
    })

pub returns-in-Err-clause-closes : goal.returns-in-Err-clause-closes
returns-in-Err-clause-closes g c =
    let d = g.D.Disk in
    let was = engine_with c.self.inside.live.store c.self.inside.live.oldest c.self.inside.cursors in
    let now = engine_with c.in-Err.store c.self.inside.live.oldest c.self.inside.cursors in
    subst (λ (e : EngineState g.row.D.Denot). Closes d e (Err (now, c.in-Err.refusal))) c.self.view_is (record {
      stands = λ machine is. tt;
      second = λ machine is. tt;
      durable = λ machine is. tt;
      meanwhile = λ machine last is kept on within. tt;
      keeping = tt;
      stays = λ machine is. stays d was now machine is c.in-Err.ensures.closes.keeps.contents c.in-Err.ensures.closes.keeps.full c.in-Err.ensures.closes.keeps.limit refl refl;
      lasts = c.in-Err.ensures.closes.keeps.endures.lasts;
      cursors = refl;
      honesty = c.in-Err.ensures.closes.keeps.honesty;
      limit = c.in-Err.ensures.closes.keeps.limit;
    })
