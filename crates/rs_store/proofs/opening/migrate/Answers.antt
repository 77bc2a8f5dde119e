-- The flag is read, and then the file is migrated.
use Rattle.std.proofs.Common.{inl, inr, rules, subst}
use Rattle.std.specs.Prelude.{OnOk}
use Rattle.rs_file.proofs.Loaded.{same_map}
use Rattle.rs_pager.specs.Below.{KeepsBelow-refl}
use Rattle.rs_pager.specs.Lasts.{KeepsMap}
use Rattle.rs_pager.specs.Maps.{committed}
use Rattle.rs_pages.specs.PageMap.{PageMap}
use Rattle.rs_store.proofs.Enduring.{endures-refl, endures-trans, endures_below, endures_maps}
use Rattle.rs_store.proofs.OpenedPages.{maps-trans}
use Rattle.rs_store.proofs.opening.migrate.Goals as goal

pub returns-clause-keeps : goal.returns-clause-keeps
returns-clause-keeps g c = λ lacks.
    maps-trans g.D.Disk c.args.pager.now c.check_closed.new.pager c.migrate.new.pager c.check_closed.ensures.keeps c.migrate.ensures.checkpoints.keeps

pub returns-clause-kept : goal.returns-clause-kept
returns-clause-kept g c = λ lacks tied.
    let d = g.D.Disk in
    let mid = c.check_closed.new.pager in
    let last = c.migrate.new.pager in
    let still = c.check_closed.ensures.keeps.tied tied in
    subst (λ (map : PageMap). OnOk c.migrate.result (KeepsMap d last map))
    (same_map (committed d mid) (committed d c.args.pager.now) (c.check_closed.ensures.keeps.committed tied))
    (c.migrate.ensures.checkpoints.kept still.kept still still.is_kept)

-- ---- what lasts

pub returns-then-not-lacks_first_page-clause-endures : goal.returns-then-not-lacks_first_page-clause-endures
returns-then-not-lacks_first_page-clause-endures g c = endures-refl g.D.Disk c.args.pager.now

pub returns-in_err-check_closed-clause-endures : goal.returns-in_err-check_closed-clause-endures
returns-in_err-check_closed-clause-endures g c = endures_below g.D.Disk c.args.pager.now c.check_closed.new.pager c.check_closed.ensures.below

pub returns-clause-endures : goal.returns-clause-endures
returns-clause-endures g c =
    let checkpoints = c.migrate.ensures.checkpoints in
    endures-trans g.D.Disk c.args.pager.now c.check_closed.new.pager c.migrate.new.pager
    (endures_below g.D.Disk c.args.pager.now c.check_closed.new.pager c.check_closed.ensures.below)
    (endures_maps g.D.Disk c.check_closed.new.pager c.migrate.new.pager checkpoints.keeps checkpoints.lasts)

-- ---- what is written

pub returns-then-not-lacks_first_page-clause-unclosed : goal.returns-then-not-lacks_first_page-clause-unclosed
returns-then-not-lacks_first_page-clause-unclosed g c = λ honest. inl (KeepsBelow-refl g.D.Disk c.args.pager.now)

pub returns-in_err-check_closed-clause-unclosed : goal.returns-in_err-check_closed-clause-unclosed
returns-in_err-check_closed-clause-unclosed g c = λ honest. inl c.check_closed.ensures.below

pub returns-clause-unclosed : goal.returns-clause-unclosed
returns-clause-unclosed g c = λ honest. inr (search rules, c.in_ok-check_closed.ensures.closed honest)
