-- The pages, and a sync.
use Rattle.std.proofs.Common.{IsTrue, subst, sym}
use Rattle.rs_disk.specs.Content.{Content}
use Rattle.rs_journal.specs.Stages.{HasHome}
use Rattle.rs_disk.proofs.Reaching.{reaches_synced}
use Rattle.rs_journal.proofs.Advancing.{on_ok}
use Rattle.rs_journal.proofs.home.write_home.Goals as goal

pub returns-clause-reaches : goal.returns-clause-reaches
returns-clause-reaches g c = reaches_synced g.D.Disk _ _ _ _ c.write_home_pages.ensures.reaches c.sync.ensures.reaches

pub returns-clause-written : goal.returns-clause-written
returns-clause-written g c = λ honest.
    let last : IsTrue (g.D.Disk.is_honest c.write_home_pages.new.disk) = subst IsTrue (sym c.write_home_pages.ensures.reaches.honesty) honest in
    on_ok _ _ (subst (λ (content : Content). HasHome (g.C.Copies.count c.args.copies.now) (g.C.Copies.number c.args.copies.now) (g.C.Copies.byte c.args.copies.now) content)
    (sym (c.sync.ensures.reaches.reads last)) (c.in_ok-write_home_pages.ensures.written honest))
