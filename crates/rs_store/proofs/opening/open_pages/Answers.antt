-- The pages are read and checked, and those of version 1 are made the file's.
use Rattle.std.proofs.Common.{◌≡◌, ◌∙◌, Err, ap, inl, subst, sym}
use Rattle.std.specs.Prelude.{◌≢◌, IsTrue}
use Rattle.std.proofs.lemmas.Result.{err_from_is_err_and}
use Rattle.rs_disk.specs.Content.{Content}
use Rattle.rs_page.specs.declared.file_header.TheConstants.{FLAG_OFFSET}
use Rattle.rs_pager.specs.Maps.{working}
use Rattle.rs_refusal.specs.declared.refusal.Refusal.TheVariants as refusal
use Rattle.rs_store.proofs.Enduring.{endures-trans, endures_below}
use Rattle.rs_store.proofs.Keeping.{leaves_by_reading}
use Rattle.rs_store.proofs.Loaded.{stands_for_some}
use Rattle.rs_store.proofs.OpenedPages.{opened_pages, opened_read, unclosed_after}
use Rattle.rs_store.proofs.opening.open_pages.Goals as goal

pub returns-clause-opens : goal.returns-clause-opens
returns-clause-opens g c =
    let d = g.D.Disk in
    let was = c.args.pager.now in
    let mid = c.load_state.new.pages in
    let read = leaves_by_reading d c.load_state.result was mid c.load_state.ensures.rests in
    opened_pages d was mid c.migrate.new.pager read c.migrate.ensures.alone c.migrate.ensures.keeps c.in_ok-migrate.ensures.kept c.migrate.ensures.begun

pub returns-clause-read : goal.returns-clause-read
returns-clause-read g c = λ has.
    let d = g.D.Disk in
    let was = c.args.pager.now in
    let mid = c.load_state.new.pages in
    opened_read d was mid c.migrate.new.pager (leaves_by_reading d c.load_state.result was mid c.load_state.ensures.rests) c.migrate.ensures.alone has

pub returns-in_err-migrate-clause-read : goal.returns-in_err-migrate-clause-read
returns-in_err-migrate-clause-read g c = λ has.
    let d = g.D.Disk in
    let was = c.args.pager.now in
    let mid = c.load_state.new.pages in
    opened_read d was mid c.migrate.new.pager (leaves_by_reading d c.load_state.result was mid c.load_state.ensures.rests) c.migrate.ensures.alone has

pub returns-clause-closed : goal.returns-clause-closed
returns-clause-closed g c = λ honest lacks.
    let d = g.D.Disk in
    let below = c.load_state.ensures.rests.below in
    subst (λ (content : Content). content.byte FLAG_OFFSET ≡ 0) (below.unwritten honest)
    (c.in_ok-migrate.ensures.closed (subst IsTrue (sym below.honesty) honest) (below.lacks ∙ lacks))

pub returns-in_err-migrate-clause-left_open : goal.returns-in_err-migrate-clause-left_open
returns-in_err-migrate-clause-left_open g c = λ tied is.
    let d = g.D.Disk in
    let was = c.args.pager.now in
    let mid = c.load_state.new.pages in
    let loaded = c.in_ok-loaded.loaded in
    let below = c.load_state.ensures.rests.below in
    let p = err_from_is_err_and c.from_residual-in_err-migrate.result c.from_residual-in_err-migrate.ensures.1 in
    let why : c.in_err-migrate.field-0.0 ≡ refusal.FileNotClosed = cc (p.1, p.2, is) in
    let left = c.in_err-migrate.ensures.open (below.tied tied).honest (ap Err why) in (
      sym below.lacks ∙ left.0,
      stands_for_some (working d was) loaded.file loaded.catalog loaded.referents (c.in_ok-loaded.ensures.loads tied),
      subst (λ (content : Content). content.byte FLAG_OFFSET ≢ 0) (below.unwritten tied.honest) left.1,
    )

-- ---- what lasts

pub returns-in_err-loaded-clause-endures : goal.returns-in_err-loaded-clause-endures
returns-in_err-loaded-clause-endures g c = endures_below g.D.Disk c.args.pager.now c.load_state.new.pages c.load_state.ensures.rests.below

pub returns-in_err-migrate-clause-endures : goal.returns-in_err-migrate-clause-endures
returns-in_err-migrate-clause-endures g c =
    endures-trans g.D.Disk c.args.pager.now c.load_state.new.pages c.migrate.new.pager
    (endures_below g.D.Disk c.args.pager.now c.load_state.new.pages c.load_state.ensures.rests.below) c.migrate.ensures.endures

pub returns-clause-endures : goal.returns-clause-endures
returns-clause-endures g c =
    endures-trans g.D.Disk c.args.pager.now c.load_state.new.pages c.migrate.new.pager
    (endures_below g.D.Disk c.args.pager.now c.load_state.new.pages c.load_state.ensures.rests.below) c.migrate.ensures.endures

-- ---- what is written

pub returns-in_err-loaded-clause-unclosed : goal.returns-in_err-loaded-clause-unclosed
returns-in_err-loaded-clause-unclosed g c = λ tied. inl c.load_state.ensures.rests.below

pub returns-in_err-migrate-clause-unclosed : goal.returns-in_err-migrate-clause-unclosed
returns-in_err-migrate-clause-unclosed g c = λ tied.
    let below = c.load_state.ensures.rests.below in
    let loaded = c.in_ok-loaded.loaded in
    unclosed_after g.D.Disk c.args.pager.now c.load_state.new.pages c.migrate.new.pager below
    (stands_for_some (working g.D.Disk c.args.pager.now) loaded.file loaded.catalog loaded.referents (c.in_ok-loaded.ensures.loads tied)) tied.honest
    (c.migrate.ensures.unclosed (below.tied tied).honest)

pub returns-clause-unclosed : goal.returns-clause-unclosed
returns-clause-unclosed g c = λ tied.
    let below = c.load_state.ensures.rests.below in
    let loaded = c.in_ok-loaded.loaded in
    unclosed_after g.D.Disk c.args.pager.now c.load_state.new.pages c.migrate.new.pager below
    (stands_for_some (working g.D.Disk c.args.pager.now) loaded.file loaded.catalog loaded.referents (c.in_ok-loaded.ensures.loads tied)) tied.honest
    (c.migrate.ensures.unclosed (below.tied tied).honest)
