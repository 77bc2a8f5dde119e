-- The pages, and a sync.
use Rattle.std.proofs.Common.{IsTrue, subst, sym, rules}
use Rattle.rs_disk.specs.Content.{Content}
use Rattle.rs_journal.specs.Recovery.{IsThere, Brought}
use Rattle.rs_journal.specs.Stages.{IsHome, IsClosing, HasHome}
use Rattle.rs_journal.proofs.Advancing.{goes-by, remains-by, on_err, on_ok}
use Rattle.rs_journal.proofs.Staging.{home-on, is-home}
use Rattle.rs_disk.proofs.Reaching.{reaches_synced}
use Rattle.rs_journal.proofs.recovery.bring_back.Goals as goal

pub returns-in_err-copy_home_pages-clause-goes : goal.returns-in_err-copy_home_pages-clause-goes
returns-in_err-copy_home_pages-clause-goes g c = λ journal pages carries first_is count_is every.
    let there : IsThere c.args.first c.args.count journal (g.D.Disk.seen c.args.disk.now)
    = record { tells = record { there = every.reads.journal_there; well_formed = carries.well_formed }; first_page = first_is; copies = count_is } in
    let remains = remains-by g.D.Disk _ _ _ _ (λ a b home step. home-on journal pages a b carries home step)
    (c.copy_home_pages.ensures.reaches journal every.honest there) every in
    record { done = search rules; fault = on_err _ _ remains.every; meanwhile = remains.meanwhile }

pub returns-clause-goes : goal.returns-clause-goes
returns-clause-goes g c = λ journal pages carries first_is count_is every.
    let there : IsThere c.args.first c.args.count journal (g.D.Disk.seen c.args.disk.now)
    = record { tells = record { there = every.reads.journal_there; well_formed = carries.well_formed }; first_page = first_is; copies = count_is } in
    let still : IsTrue (g.D.Disk.is_honest c.copy_home_pages.new.disk) = subst IsTrue (sym c.copy_home_pages.ensures.calls.honesty) every.honest in
    let written = subst (λ (content : Content). HasHome journal.count journal.number journal.copy content) (sym (c.sync.ensures.reaches.reads still))
    (c.in_ok-copy_home_pages.ensures.written journal every.honest there) in
    let ends : IsHome journal pages (g.D.Disk.seen c.sync.new.disk) → IsClosing journal pages (g.D.Disk.seen c.sync.new.disk)
    = λ home. is-home journal pages (g.D.Disk.seen c.sync.new.disk) carries home written in
    goes-by g.D.Disk c.sync.result _ _ _ _ _ (λ a b home step. home-on journal pages a b carries home step)
    (reaches_synced g.D.Disk _ _ _ _ (c.copy_home_pages.ensures.reaches journal every.honest there) c.sync.ensures.reaches)
    (λ keeps. c.sync.ensures.durable (subst IsTrue (sym c.copy_home_pages.ensures.calls.keeping) keeps))
    (λ honest. on_ok _ _ ends) every

pub returns-clause-brought : goal.returns-clause-brought
returns-clause-brought g c = λ journal honest there.
    let still : IsTrue (g.D.Disk.is_honest c.copy_home_pages.new.disk) = subst IsTrue (sym c.copy_home_pages.ensures.calls.honesty) honest in
    on_ok _ _ (subst (λ (content : Content). Brought journal (g.D.Disk.seen c.args.disk.now) content) (sym (c.sync.ensures.reaches.reads still))
    (record {
      home = c.in_ok-copy_home_pages.ensures.written journal honest there;
      others = (c.copy_home_pages.ensures.reaches journal honest there).reads honest;
      no_longer = c.copy_home_pages.ensures.no_longer journal honest there;
    }))
