-- The disk that the engine gives back stands for its machine's state; or why there is none is told, where nothing failed before.
use Rattle.std.proofs.Common.{◌∙◌, ℕ, refl, rules, subst, sym}
use Rattle.rs_pager.specs.Opened.{CountsFault}
use Rattle.rs_server.proofs.Closing.{closed_as, tells_why}
use Rattle.rs_server.proofs.disks.close_after.Goals as goal

pub returns-in-Ok-None-clause-closes : goal.returns-in-Ok-None-clause-closes
returns-in-Ok-None-clause-closes g c = λ machine is. record {
  closed = closed_as g.D.Disk c.args.engine.store.pager.limit is.is.within c.in-Ok-None.disk _ (c.in-Ok-None.ensures.closes.stands machine is.is)
      (c.in-Ok-None.ensures.closes.second machine is.is) (c.in-Ok-None.ensures.closes.durable machine is.is);
  told = search rules;
  count = c.in-Ok-None.ensures.count.count ∙ sym is.is.failures;
}

pub returns-in-Ok-Some-clause-closes : goal.returns-in-Ok-Some-clause-closes
returns-in-Ok-Some-clause-closes g c = λ machine is. record {
  closed = closed_as g.D.Disk c.args.engine.store.pager.limit is.is.within c.in-Ok-Some.disk _ (c.in-Ok-Some.ensures.closes.stands machine is.is)
      (c.in-Ok-Some.ensures.closes.second machine is.is) (c.in-Ok-Some.ensures.closes.durable machine is.is);
  told = search rules;
  count = c.in-Ok-Some.ensures.count.count ∙ sym is.is.failures;
}

pub returns-in-Err-Some-clause-closes : goal.returns-in-Err-Some-clause-closes
returns-in-Err-Some-clause-closes g c = λ machine is.
    let d = g.D.Disk in
    let back = c.in-Err-Some.engine.store.pager.disk in
    let why = c.in-Err-Some._refusal in
    record {
      closed = tt;
      told = search rules;
      count = (back, why, subst (λ (count : ℕ). CountsFault why count (d.failures back)) (sym is.is.failures) c.in-Err-Some.ensures.count.count, search rules);
    }

pub returns-in-Err-None-clause-closes : goal.returns-in-Err-None-clause-closes
returns-in-Err-None-clause-closes g c = λ machine is.
    let d = g.D.Disk in
    let back = c.in-Err-None.engine.store.pager.disk in
    let why = c.in-Err-None.refusal in
    record {
      closed = tt;
      told = tells_why _ _ why c.in-Err-None.is-1 c.in-Err-None.ensures.count.refused;
      count = (back, why, subst (λ (count : ℕ). CountsFault why count (d.failures back)) (sym is.is.failures) c.in-Err-None.ensures.count.count, λ _. refl);
    }

pub returns-in-Ok-None-clause-meanwhile : goal.returns-in-Ok-None-clause-meanwhile
returns-in-Ok-None-clause-meanwhile g c = λ machine last is kept on. c.in-Ok-None.ensures.closes.meanwhile machine last is.is kept on c.limit.ensures.within

pub returns-in-Ok-Some-clause-meanwhile : goal.returns-in-Ok-Some-clause-meanwhile
returns-in-Ok-Some-clause-meanwhile g c = λ machine last is kept on. c.in-Ok-Some.ensures.closes.meanwhile machine last is.is kept on c.limit.ensures.within
