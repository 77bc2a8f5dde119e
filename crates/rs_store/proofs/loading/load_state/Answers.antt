-- The file is opened, and then what it says is brought.
use Rattle.std.proofs.Common.{◌≡◌, Ok, Err, ap, subst, sym}
use Rattle.std.proofs.lemmas.Result.{err_from_is_err_and}
use Rattle.rs_file.proofs.Loaded.{same_map}
use Rattle.rs_pages.proofs.Resting.{rests_err, rests_ok, rests_then}
use Rattle.rs_pages.specs.PageMap.{PageMap}
use Rattle.rs_refusal.specs.declared.refusal.Refusal.TheVariants as refusal
use Rattle.rs_store.specs.Loading.{HoldsOpened}
use Rattle.rs_store.proofs.Loaded.{loads_state, none_stands, nothing_stands}
use Rattle.rs_store.proofs.loading.load_state.Goals as goal

pub returns-in_err-file-clause-damaged : goal.returns-in_err-file-clause-damaged
returns-in_err-file-clause-damaged g c = λ tied is.
    let p = err_from_is_err_and c.from_residual.result c.from_residual.ensures.1 in
    let why : c.in_err-file.field-0.0 ≡ refusal.DamagedFile = cc (p.1, p.2, is) in
    nothing_stands (g.P.Pages.store c.args.pages.now).map ((c.in_err-file.ensures.loads tied).damaged (ap Err why))

pub returns-in_err-catalog-clause-rests : goal.returns-in_err-catalog-clause-rests
returns-in_err-catalog-clause-rests g c =
    let p = err_from_is_err_and c.from_residual-in_err-catalog.result c.from_residual-in_err-catalog.ensures.1 in
    rw (p.1, p.2) (rests_err g.P.Pages.is_tied g.P.Pages.store g.P.Pages.keeps c.in_err-catalog.field-0.0 c.args.pages.now c.bring.new.pages
    (rests_then g.P.Pages.is_tied g.P.Pages.store g.P.Pages.keeps c.in_ok-file.file (Err c.in_err-catalog.field-0.0) c.args.pages.now
    c.load.new.pages c.bring.new.pages g.met.P.Pages.keeps_trans g.met.P.Pages.keeps_tied c.in_ok-file.ensures.rests c.in_err-catalog.ensures.rests))

pub returns-in_err-catalog-clause-damaged : goal.returns-in_err-catalog-clause-damaged
returns-in_err-catalog-clause-damaged g c = λ tied is.
    let old = (g.P.Pages.store c.args.pages.now).map in
    let mid = (g.P.Pages.store c.load.new.pages).map in
    let later = g.met.P.Pages.keeps_tied c.args.pages.now c.load.new.pages c.in_ok-file.ensures.rests.below tied in
    let same = same_map mid old (c.in_ok-file.ensures.rests.rests.keeps.pages tied) in
    let p = err_from_is_err_and c.from_residual-in_err-catalog.result c.from_residual-in_err-catalog.ensures.1 in
    let why : c.in_err-catalog.field-0.0 ≡ refusal.DamagedFile = cc (p.1, p.2, is) in
    none_stands c.file_holds_one_thing.ensures c.meant_contents_stay_meant.ensures.says c.meant_contents_stay_meant.ensures.same c.contents_have_one_state.ensures.same
    old c.in_ok-file.file (c.in_ok-file.ensures.loads tied).loads
    (λ contents holds. c.in_err-catalog.ensures.damaged later (ap Err why) contents (subst (λ (m : PageMap). HoldsOpened m c.in_ok-file.file contents) (sym same) holds))

pub returns-clause-rests : goal.returns-clause-rests
returns-clause-rests g c =
    rests_ok g.P.Pages.is_tied g.P.Pages.store g.P.Pages.keeps (c.in_ok-catalog.catalog, c.in_ok-catalog.referents) _ c.args.pages.now c.bring.new.pages
    (rests_then g.P.Pages.is_tied g.P.Pages.store g.P.Pages.keeps c.in_ok-file.file (Ok (c.in_ok-catalog.catalog, c.in_ok-catalog.referents)) c.args.pages.now
    c.load.new.pages c.bring.new.pages g.met.P.Pages.keeps_trans g.met.P.Pages.keeps_tied c.in_ok-file.ensures.rests c.in_ok-catalog.ensures.rests)

pub returns-clause-loads : goal.returns-clause-loads
returns-clause-loads g c = λ tied.
    let old = (g.P.Pages.store c.args.pages.now).map in
    let mid = (g.P.Pages.store c.load.new.pages).map in
    let later = g.met.P.Pages.keeps_tied c.args.pages.now c.load.new.pages c.in_ok-file.ensures.rests.below tied in
    let same = same_map mid old (c.in_ok-file.ensures.rests.rests.keeps.pages tied) in
    loads_state old c.in_ok-file.file c.in_ok-catalog.catalog c.in_ok-catalog.referents (c.in_ok-file.ensures.loads tied).loads
    (λ contents holds. c.in_ok-catalog.ensures.brings later contents (subst (λ (m : PageMap). HoldsOpened m c.in_ok-file.file contents) (sym same) holds))
