-- Each page that came into use is one more.
use Rattle.std.proofs.Common.{◌≡◌, ◌+◌, Ok, Err, length, refl, arith}
use Rattle.std.proofs.lemmas.Result.{err_from_is_err_and}
use Rattle.rs_page.specs.declared.header.PageKind.TheVariants.{Catalogue}
use Rattle.rs_catalog_pages.specs.Storing.{AreNotOwn}
use Rattle.rs_catalog_pages.proofs.Fronts.{kept_pushed}
use Rattle.rs_catalog_pages.proofs.Moving.{MovesPages-trans, not_own_before, allocated, no_list-not_own}
use Rattle.rs_catalog_pages.proofs.Room.{allocated_one, pushed_one}
use Rattle.rs_page_owners.proofs.Working.{NoFreeList, allocate-works, works_then, works_err, works_ok}
use Rattle.rs_catalog_pages.proofs.placing.grow.Goals as goal

pub returns-in_err-number-clause-works : goal.returns-in_err-number-clause-works
returns-in_err-number-clause-works g c =
    let p = err_from_is_err_and c.from_residual.result c.from_residual.ensures.1 in
    rw (p.1, p.2) (works_then ⊥ (g.P.Pages.is_tied c.args.pages.now → AreNotOwn (g.P.Pages.store c.args.pages.now).map c.args.numbers.now.items) (NoFreeList (g.P.Pages.is_tied c.loop-pages.pages) (g.P.Pages.store c.loop-pages.pages)) tt (Err c.in_err-number.field-0.0)
    (g.P.Pages.store c.args.pages.now) (g.P.Pages.store c.loop-pages.pages) (g.P.Pages.store c.allocate.new.self)
    (λ none tied.
    let later = g.met.P.Pages.keeps_tied c.args.pages.now c.loop-pages.pages c.loop-pages.invariant.keeps tied in
    not_own_before (g.P.Pages.store c.args.pages.now).map (g.P.Pages.store c.loop-pages.pages).map c.args.numbers.now.items c.loop-pages.numbers.items (c.loop-pages.invariant.moves tied)
    (no_list-not_own (g.P.Pages.store c.loop-pages.pages).map c.loop-pages.numbers.items (none later)))
    c.loop-pages.invariant.works
    (works_err (NoFreeList (g.P.Pages.is_tied c.loop-pages.pages) (g.P.Pages.store c.loop-pages.pages)) (NoFreeList (g.P.Pages.is_tied c.loop-pages.pages) (g.P.Pages.store c.loop-pages.pages)) (Err c.in_err-number.field-0.0) c.in_err-number.field-0.0
    (g.P.Pages.store c.loop-pages.pages) (g.P.Pages.store c.allocate.new.self) (λ none. none) refl
    (allocate-works (g.P.Pages.is_tied c.loop-pages.pages) (NoFreeList (g.P.Pages.is_tied c.loop-pages.pages) (g.P.Pages.store c.loop-pages.pages)) Catalogue (Err c.in_err-number.field-0.0)
    (g.P.Pages.store c.loop-pages.pages) (g.P.Pages.store c.allocate.new.self) (λ none. none) tt c.in_err-number.ensures.refused)))

pub loop-pages-preserved : goal.loop-pages-preserved
loop-pages-preserved g c =
    let allocates = c.in_ok-number.ensures.allocates in
    let more : length c.push.new.self.items ≡ length c.loop-pages.numbers.items + 1 =
    pushed_one c.in_ok-number.number c.loop-pages.numbers.items c.push.new.self.items c.in_ok-push.ensures.items in
    record {
      keeps = g.met.P.Pages.keeps_trans c.args.pages.now c.loop-pages.pages c.allocate.new.self c.loop-pages.invariant.keeps c.in_ok-number.ensures.keeps;
      works = works_then ⊥ ⊥ ⊥ tt (Ok tt) (g.P.Pages.store c.args.pages.now) (g.P.Pages.store c.loop-pages.pages) (g.P.Pages.store c.allocate.new.self) (λ none. none) c.loop-pages.invariant.works
          (works_ok (NoFreeList (g.P.Pages.is_tied c.loop-pages.pages) (g.P.Pages.store c.loop-pages.pages)) ⊥ c.in_ok-number.number tt (g.P.Pages.store c.loop-pages.pages) (g.P.Pages.store c.allocate.new.self)
          (allocate-works (g.P.Pages.is_tied c.loop-pages.pages) (NoFreeList (g.P.Pages.is_tied c.loop-pages.pages) (g.P.Pages.store c.loop-pages.pages)) Catalogue (Ok c.in_ok-number.number)
          (g.P.Pages.store c.loop-pages.pages) (g.P.Pages.store c.allocate.new.self) (λ none. none) allocates tt));
      moves = λ tied.
          let later = g.met.P.Pages.keeps_tied c.args.pages.now c.loop-pages.pages c.loop-pages.invariant.keeps tied in
          MovesPages-trans (g.P.Pages.store c.args.pages.now).map (g.P.Pages.store c.loop-pages.pages).map (g.P.Pages.store c.allocate.new.self).map c.args.numbers.now.items c.loop-pages.numbers.items c.push.new.self.items
          (c.loop-pages.invariant.moves tied)
          (allocated (g.P.Pages.store c.loop-pages.pages).map (g.P.Pages.store c.allocate.new.self).map c.in_ok-number.number c.loop-pages.numbers.items c.push.new.self.items
          (allocates.allocates later) (allocates.fresh later) allocates.after allocates.below allocates.no_fewer c.in_ok-push.ensures.items);
      longer = omega (arith, c.loop-pages.invariant.longer, more);
      kept = kept_pushed c.in_ok-number.number c.args.numbers.now.items c.loop-pages.numbers.items c.push.new.self.items c.loop-pages.invariant.longer c.loop-pages.invariant.kept c.in_ok-push.ensures.items;
      few = omega (arith, more, c.len.ensures, c.loop-pages-test.true);
      as_many = omega (
        arith,
        c.loop-pages.invariant.as_many,
        more,
        allocated_one (g.P.Pages.is_tied c.loop-pages.pages) Catalogue c.in_ok-number.number (g.P.Pages.store c.loop-pages.pages) (g.P.Pages.store c.allocate.new.self) allocates,
      );
    }
