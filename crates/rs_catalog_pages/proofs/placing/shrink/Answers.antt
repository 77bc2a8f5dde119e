-- Each page that was released is one less.
use Rattle.std.proofs.Common.{Ok, Err, ◌∙◌, arith}
use Rattle.std.proofs.lemmas.Result.{err_from_is_err_and}
use Rattle.rs_catalog_pages.specs.Storing.{AreNotOwn}
use Rattle.rs_catalog_pages.proofs.Fronts.{kept_fewer}
use Rattle.rs_catalog_pages.proofs.Moving.{MovesPages-trans, not_own_before}
use Rattle.rs_page_owners.proofs.Working.{works_then, works_ok}
use Rattle.rs_catalog_pages.proofs.placing.shrink.Goals as goal

pub returns-in_err-release_last-clause-works : goal.returns-in_err-release_last-clause-works
returns-in_err-release_last-clause-works g c =
    let p = err_from_is_err_and c.from_residual.result c.from_residual.ensures.1 in
    rw (p.1, p.2) (works_then ⊥ (g.P.Pages.is_tied c.args.pages.now → AreNotOwn (g.P.Pages.store c.args.pages.now).map c.args.numbers.now.items) (g.P.Pages.is_tied c.loop-pages.pages → AreNotOwn (g.P.Pages.store c.loop-pages.pages).map c.loop-pages.numbers.items) tt
    (Err c.in_err-release_last.field-0.0) (g.P.Pages.store c.args.pages.now) (g.P.Pages.store c.loop-pages.pages) (g.P.Pages.store c.release_last.new.pages)
    (λ none tied.
    let later = g.met.P.Pages.keeps_tied c.args.pages.now c.loop-pages.pages c.loop-pages.invariant.keeps tied in
    not_own_before (g.P.Pages.store c.args.pages.now).map (g.P.Pages.store c.loop-pages.pages).map c.args.numbers.now.items c.loop-pages.numbers.items (c.loop-pages.invariant.moves tied) (none later))
    c.loop-pages.invariant.works c.in_err-release_last.ensures.works)

pub loop-pages-preserved : goal.loop-pages-preserved
loop-pages-preserved g c = record {
  keeps = g.met.P.Pages.keeps_trans c.args.pages.now c.loop-pages.pages c.release_last.new.pages c.loop-pages.invariant.keeps c.in_ok-release_last.ensures.keeps;
  works = works_then ⊥ ⊥ ⊥ tt (Ok tt) (g.P.Pages.store c.args.pages.now) (g.P.Pages.store c.loop-pages.pages) (g.P.Pages.store c.release_last.new.pages) (λ none. none) c.loop-pages.invariant.works
      (works_ok (g.P.Pages.is_tied c.loop-pages.pages → AreNotOwn (g.P.Pages.store c.loop-pages.pages).map c.loop-pages.numbers.items) ⊥ tt tt (g.P.Pages.store c.loop-pages.pages) (g.P.Pages.store c.release_last.new.pages)
      c.in_ok-release_last.ensures.works);
  moves = λ tied.
      let later = g.met.P.Pages.keeps_tied c.args.pages.now c.loop-pages.pages c.loop-pages.invariant.keeps tied in
      MovesPages-trans (g.P.Pages.store c.args.pages.now).map (g.P.Pages.store c.loop-pages.pages).map (g.P.Pages.store c.release_last.new.pages).map c.args.numbers.now.items c.loop-pages.numbers.items c.release_last.new.numbers.items
      (c.loop-pages.invariant.moves tied) (c.in_ok-release_last.ensures.moves later);
  enough = omega (arith, c.in_ok-release_last.ensures.fewer, c.len.ensures, c.loop-pages-test.true);
  kept = kept_fewer c.args.numbers.now.items c.loop-pages.numbers.items c.release_last.new.numbers.items (omega (arith, c.in_ok-release_last.ensures.fewer)) c.loop-pages.invariant.kept c.in_ok-release_last.ensures.kept;
  as_many = c.in_ok-release_last.ensures.as_many ∙ c.loop-pages.invariant.as_many;
}
