-- One run of cells after the other.
use Rattle.std.proofs.Common.{◌≡◌, Ok, Err, length, ap, arith}
use Rattle.std.proofs.lemmas.Result.{err_from_is_err_and}
use Rattle.rs_refusal.specs.declared.refusal.Refusal.TheVariants as refusal
use Rattle.rs_pages.proofs.Resting.{rests_ok, rests_then}
use Rattle.rs_records.specs.Listed.{listed}
use Rattle.rs_tree.specs.Form.{Form}
use Rattle.rs_tree.specs.Forms.{form_in}
use Rattle.rs_btree.proofs.Parts.{none_before, some_more, told_after, told_before, told_some, told_wider}
use Rattle.rs_btree.proofs.lookup.first_of_all.Goals as goal

pub returns-in_err-place-clause-damaged : goal.returns-in_err-place-clause-damaged
returns-in_err-place-clause-damaged g c = λ is tied.
    let form : Form = form_in g.S.Summary c.args.layout in
    let later = g.met.P.Pages.keeps_tied c.args.pages.now c.loop-at.pages c.loop-at.invariant.rests.below tied in
    let p = err_from_is_err_and c.from_residual.result c.from_residual.ensures.1 in
    let why : c.in_err-place.field-0.0 ≡ refusal.DamagedFile = cc (p.1, p.2, is) in
    none_before form (g.P.Pages.store c.args.pages.now).map (g.P.Pages.store c.loop-at.pages).map (c.loop-at.invariant.rests.rests.keeps.pages tied) c.args.root _
    (c.in_err-place.ensures.damaged (ap Err why) later)

pub returns-then-place-end-clause-found : goal.returns-then-place-end-clause-found
returns-then-place-end-clause-found g c = λ tied.
    let form : Form = form_in g.S.Summary c.args.layout in
    let pages = (g.P.Pages.store c.args.pages.now).map in
    let here = (g.P.Pages.store c.loop-at.pages).map in
    let cells = listed c.args.cells.now in
    let later = g.met.P.Pages.keeps_tied c.args.pages.now c.loop-at.pages c.loop-at.invariant.rests.below tied in
    told_after form pages c.args.root cells 0 c.loop-at.at (length cells) c.in_ok-place.place (c.loop-at.invariant.some tied)
    (told_before form pages here (c.loop-at.invariant.rests.rests.keeps.pages tied) c.args.root cells c.loop-at.at (length cells) c.in_ok-place.place
    (told_wider form here c.args.root cells c.loop-at.at c.rising_end-end.result (length cells) c.in_ok-place.place c.if-place-end.true (c.in_ok-place.ensures.found later)))

pub loop-at-preserved : goal.loop-at-preserved
loop-at-preserved g c =
    let form : Form = form_in g.S.Summary c.args.layout in
    let pages = (g.P.Pages.store c.args.pages.now).map in
    let here = (g.P.Pages.store c.loop-at.pages).map in
    let cells = listed c.args.cells.now in
    let bounds = c.in_ok-place.ensures.within (omega (arith, c.rising_end-end.ensures.within.0)) in
    record {
      rests = rests_ok g.P.Pages.is_tied g.P.Pages.store g.P.Pages.keeps c.in_ok-place.place tt c.args.pages.now c.first_missing.new.pages
          (rests_then g.P.Pages.is_tied g.P.Pages.store g.P.Pages.keeps tt (Ok c.in_ok-place.place) c.args.pages.now c.loop-at.pages c.first_missing.new.pages
          g.met.P.Pages.keeps_trans g.met.P.Pages.keeps_tied c.loop-at.invariant.rests c.in_ok-place.ensures.rests);
      upto = c.rising_end-end.ensures.within.1;
      some = λ tied.
          let later = g.met.P.Pages.keeps_tied c.args.pages.now c.loop-at.pages c.loop-at.invariant.rests.below tied in
          some_more form pages c.args.root cells 0 c.loop-at.at c.rising_end-end.result (c.loop-at.invariant.some tied)
          (told_some form pages c.args.root cells c.loop-at.at c.rising_end-end.result c.in_ok-place.place (omega (arith, bounds.1, c.if-place-end.false))
          (told_before form pages here (c.loop-at.invariant.rests.rests.keeps.pages tied) c.args.root cells c.loop-at.at c.rising_end-end.result c.in_ok-place.place (c.in_ok-place.ensures.found later)));
    }
