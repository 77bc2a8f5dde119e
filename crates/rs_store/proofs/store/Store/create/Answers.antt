-- The store over the pages that were made.
use Rattle.std.proofs.Common.{Ok, subst, sym}
use Rattle.rs_store.specs.Calls.{Creates}
use Rattle.rs_store.specs.Kept.{StoreState}
use Rattle.rs_store.proofs.store.Store.create.Goals as goal

pub returns-in-Ok-clause-creates : goal.returns-in-Ok-clause-creates
returns-in-Ok-clause-creates g c = λ honest.
    let created = c.in_ok-pager.ensures.created honest in
    subst (λ (s : StoreState g.row.D.Denot). Creates g.D.Disk (Ok s)) (sym c.store_of.ensures) (let made = c.in-Ok.ensures.made created.tied.honest created in record { fresh = made.stands; last = made.last; sound = tt })
