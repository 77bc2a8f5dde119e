-- The store stands in the state at the beginning, and there are no cursors.
use Rattle.std.proofs.Common.{arith, subst, sym}
use Rattle.rs_engine.proofs.Filing.{begins_fresh}
use Rattle.rs_machine.specs.State.{fresh}
use Rattle.rs_store_source.specs.Kept.{StoreState}
use Rattle.rs_store_source.specs.Lasting.{IsLast}
use Rattle.rs_engine.proofs.engine.Engine.create_within.Goals as goal

pub returns-clause-creates : goal.returns-clause-creates
returns-clause-creates g c = λ honest. record {
  fresh = begins_fresh g.D.Disk c.in_ok-store.store c.engine_over.result c.engine_over.ensures.store c.engine_over.ensures.oldest c.engine_over.ensures.cursors c.fresh_state_is_lawful.ensures
      (c.in_ok-store.ensures.creates honest).fresh (omega (arith, c.in_ok-store.ensures.hands.limit, c.requires.greatest));
  last = subst (λ (store : StoreState g.row.D.Denot). IsLast g.D.Disk store.pager fresh) (sym c.engine_over.ensures.store) (c.in_ok-store.ensures.creates honest).last;
  sound = tt;
}
