-- A sync, and the rest.
use Rattle.std.proofs.Common.{IsTrue, ◌∙◌, ◌≢◌, ap, refl, subst, sym, rules}
use Rattle.rs_disk.specs.Content.{Content}
use Rattle.rs_journal.specs.Journal.{Recovers}
use Rattle.rs_journal.proofs.Recovering.{on_damaged, recovered-unsynced, recovered-synced, told-same, damaged-same, gave-same}
use Rattle.rs_disk.proofs.Reaching.{same-then}
use Rattle.rs_journal.proofs.recovery.recover.Goals as goal

pub returns-in_err-sync-clause-recovers : goal.returns-in_err-sync-clause-recovers
returns-in_err-sync-clause-recovers g c = λ pages says honest gives.
    recovered-unsynced g.D.Disk pages c.from_residual.result c.args.disk.now c.sync.new.disk (search rules) c.sync.ensures.reaches honest gives

pub returns-clause-recovers : goal.returns-clause-recovers
returns-clause-recovers g c = λ pages says honest gives.
    let same = c.sync.ensures.reaches.reads honest in
    let still : IsTrue (g.D.Disk.is_honest c.sync.new.disk) = subst IsTrue (sym c.sync.ensures.reaches.honesty) honest in
    let gives' = subst (λ (content : Content). Recovers content pages) (sym same) gives in
    recovered-synced g.D.Disk pages c.recover_synced.result c.args.disk.now c.sync.new.disk c.recover_synced.new.disk c.sync.ensures.reaches c.recover_synced.ensures.calls.keeping
    (λ keeps. c.in_ok-sync.ensures.durable keeps)
    (c.recover_synced.ensures.goes pages says gives' (record {
      honest = still;
      reads = refl;
      images = λ keeps. c.in_ok-sync.ensures.durable (subst IsTrue c.sync.ensures.reaches.keeping keeps);
    }))

pub returns-clause-told : goal.returns-clause-told
returns-clause-told g c = λ honest.
    let still : IsTrue (g.D.Disk.is_honest c.sync.new.disk) = subst IsTrue (sym c.sync.ensures.reaches.honesty) honest in
    told-same _ _ _ (c.sync.ensures.reaches.reads honest) (c.recover_synced.ensures.told still)

pub returns-clause-damaged : goal.returns-clause-damaged
returns-clause-damaged g c = λ honest.
    let still : IsTrue (g.D.Disk.is_honest c.sync.new.disk) = subst IsTrue (sym c.sync.ensures.reaches.honesty) honest in
    damaged-same _ _ _ (c.sync.ensures.reaches.reads honest) (c.recover_synced.ensures.damaged still)

pub returns-clause-gave : goal.returns-clause-gave
returns-clause-gave g c = λ honest.
    let still : IsTrue (g.D.Disk.is_honest c.sync.new.disk) = subst IsTrue (sym c.sync.ensures.reaches.honesty) honest in
    gave-same _ _ _ _ (c.sync.ensures.reaches.reads honest) (c.recover_synced.ensures.gave still)

pub returns-clause-shut : goal.returns-clause-shut
returns-clause-shut g c = λ honest. c.recover_synced.ensures.shut (subst IsTrue (sym c.sync.ensures.reaches.honesty) honest)

pub returns-clause-cut : goal.returns-clause-cut
returns-clause-cut g c = λ honest opened.
    c.recover_synced.ensures.cut (subst IsTrue (sym c.sync.ensures.reaches.honesty) honest)
    (ap (λ (content : Content). content.byte 64) (c.sync.ensures.reaches.reads honest) ∙ opened)

pub returns-clause-closed : goal.returns-clause-closed
returns-clause-closed g c = λ honest closed.
    same-then g.D.Disk _ _ _ c.sync.ensures.reaches (c.recover_synced.ensures.closed (subst IsTrue (sym c.sync.ensures.reaches.honesty) honest)
    (subst (λ (content : Content). content.byte 64 ≢ 1) (sym (c.sync.ensures.reaches.reads honest)) closed))

pub returns-clause-untouched : goal.returns-clause-untouched
returns-clause-untouched g c = on_damaged _ (λ same. same-then g.D.Disk _ _ _ c.sync.ensures.reaches same) c.recover_synced.ensures.untouched
