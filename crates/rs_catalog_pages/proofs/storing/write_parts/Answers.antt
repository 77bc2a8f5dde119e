-- Each part is written before the part that precedes it.
use Rattle.std.proofs.Common.{◌≡◌, ◌<◌, ◌+◌, ◌-◌, Ok, Err, length, drop, get_or, refl, sym, ap, subst, ◌∙◌, arith}
use Rattle.std.proofs.lemmas.List.{get_or_read}
use Rattle.std.proofs.lemmas.Result.{err_from_is_err_and}
use Rattle.rs_page_owners.specs.Counts.{times}
use Rattle.rs_page_owners.proofs.Moving.{same_pages-moves}
use Rattle.rs_pages.specs.PageMap.{HasNoFit}
use Rattle.rs_pages.proofs.Stores.{SamePages-refl}
use Rattle.rs_catalog_pages.specs.Chain.{HoldsFrom}
use Rattle.rs_catalog_pages.specs.Inner.{parts_from}
use Rattle.rs_catalog_pages.specs.Places.{number_from, part_at}
use Rattle.rs_catalog_pages.specs.Storing.{AreNotOwn}
use Rattle.rs_catalog_pages.proofs.Counting.{times-there}
use Rattle.rs_catalog_pages.proofs.Moving.{MovesPages-refl, MovesPages-trans, not_own_before, no_fit-not_own}
use Rattle.rs_page_owners.proofs.Working.{works_none, works_then, works_ok}
use Rattle.rs_catalog_pages.proofs.Writing.{part_few, written_same, writes_none, writes_moves, writes_next, writes_all, next_follows}
use Rattle.rs_catalog_pages.proofs.storing.write_parts.Goals as goal

pub loop-index-init : goal.loop-index-init
loop-index-init g c = record {
  keeps = g.met.P.Pages.keeps_refl c.args.pages.now;
  works = works_none ⊥ tt (g.P.Pages.store c.args.pages.now);
  moves = λ tied. MovesPages-refl (g.P.Pages.store c.args.pages.now).map c.args.numbers.now
      (same_pages-moves (g.P.Pages.store c.args.pages.now).map (g.P.Pages.store c.args.pages.now).map (times c.args.numbers.now) (SamePages-refl (g.P.Pages.store c.args.pages.now).map));
  holds = λ tied own. writes_none (g.P.Pages.store c.args.pages.now).map c.args.numbers.now c.args.bytes.now c.requires.room;
  within = omega arith;
  as_many = refl;
}

pub write_part-requires-clause-fits : goal.write_part-requires-clause-fits
write_part-requires-clause-fits g c = omega (arith, ap length c.part_at.ensures, part_few c.args.bytes.now (c.loop-index.index - 1))

pub loop-index-preserved : goal.loop-index-preserved
loop-index-preserved g c =
    let inside : c.loop-index.index - 1 < length c.args.numbers.now = omega (arith, c.loop-index-test.true, c.loop-index.invariant.within) in
    let next : c.loop-index.index ≡ c.loop-index.index - 1 + 1 = omega (arith, c.loop-index-test.true) in
    let number = get_or_read c.args.numbers.now (c.loop-index.index - 1) c.index-numbers-index.result inside c.index-numbers-index.is 0 in
    record {
      keeps = g.met.P.Pages.keeps_trans c.args.pages.now c.loop-index.pages c.write_part.new.pages c.loop-index.invariant.keeps c.in_ok-write_part.ensures.keeps;
      works = works_then ⊥ ⊥ ⊥ tt (Ok tt) (g.P.Pages.store c.args.pages.now) (g.P.Pages.store c.loop-index.pages) (g.P.Pages.store c.write_part.new.pages) (λ none. none) c.loop-index.invariant.works
          (works_ok (g.P.Pages.is_tied c.loop-index.pages → HasNoFit (g.P.Pages.store c.loop-index.pages).map c.index-numbers-index.result) ⊥ tt tt (g.P.Pages.store c.loop-index.pages) (g.P.Pages.store c.write_part.new.pages)
          c.in_ok-write_part.ensures.works);
      moves = λ tied.
          let later = g.met.P.Pages.keeps_tied c.args.pages.now c.loop-index.pages c.loop-index.invariant.keeps tied in
          MovesPages-trans (g.P.Pages.store c.args.pages.now).map (g.P.Pages.store c.loop-index.pages).map (g.P.Pages.store c.write_part.new.pages).map c.args.numbers.now c.args.numbers.now c.args.numbers.now
          (c.loop-index.invariant.moves tied)
          (writes_moves (g.P.Pages.store c.loop-index.pages).map (g.P.Pages.store c.write_part.new.pages).map c.index-numbers-index.result c.number_from-next.result c.part_at.result.now c.args.numbers.now
          (subst (λ n. 0 < times c.args.numbers.now n) (sym number) (times-there c.args.numbers.now (c.loop-index.index - 1) inside))
          (λ own. rw c.number_from-next.ensures (next_follows (g.P.Pages.store c.loop-index.pages).map c.args.numbers.now c.loop-index.index own)) (c.in_ok-write_part.ensures.written later));
      holds = λ tied own.
          let later = g.met.P.Pages.keeps_tied c.args.pages.now c.loop-index.pages c.loop-index.invariant.keeps tied in
          writes_next (g.P.Pages.store c.args.pages.now).map (g.P.Pages.store c.loop-index.pages).map (g.P.Pages.store c.write_part.new.pages).map (c.loop-index.index - 1) c.args.numbers.now c.args.bytes.now inside
          (c.loop-index.invariant.moves tied)
          (written_same (g.P.Pages.store c.loop-index.pages).map (g.P.Pages.store c.write_part.new.pages).map c.index-numbers-index.result (get_or c.args.numbers.now (c.loop-index.index - 1) 0)
          c.number_from-next.result (number_from c.args.numbers.now (c.loop-index.index - 1 + 1)) c.part_at.result.now (part_at c.args.bytes.now (c.loop-index.index - 1))
          number (c.number_from-next.ensures ∙ ap (number_from c.args.numbers.now) next) c.part_at.ensures (c.in_ok-write_part.ensures.written later))
          (λ used. subst (λ k. HoldsFrom (g.P.Pages.store c.loop-index.pages).map (number_from c.args.numbers.now k) (drop k c.args.numbers.now) (parts_from c.args.bytes.now k)) next (c.loop-index.invariant.holds tied used))
          own;
      within = omega (arith, c.loop-index.invariant.within);
      as_many = c.in_ok-write_part.ensures.as_many ∙ c.loop-index.invariant.as_many;
    }

pub returns-in_err-write_part-clause-works : goal.returns-in_err-write_part-clause-works
returns-in_err-write_part-clause-works g c =
    let p = err_from_is_err_and c.from_residual.result c.from_residual.ensures.1 in
    let inside : c.loop-index.index - 1 < length c.args.numbers.now = omega (arith, c.loop-index-test.true, c.loop-index.invariant.within) in
    let number = get_or_read c.args.numbers.now (c.loop-index.index - 1) c.index-numbers-index.result inside c.index-numbers-index.is 0 in
    rw (p.1, p.2) (works_then ⊥ (g.P.Pages.is_tied c.args.pages.now → AreNotOwn (g.P.Pages.store c.args.pages.now).map c.args.numbers.now) (g.P.Pages.is_tied c.loop-index.pages → HasNoFit (g.P.Pages.store c.loop-index.pages).map c.index-numbers-index.result) tt
    (Err c.in_err-write_part.field-0.0) (g.P.Pages.store c.args.pages.now) (g.P.Pages.store c.loop-index.pages) (g.P.Pages.store c.write_part.new.pages)
    (λ none tied.
    let later = g.met.P.Pages.keeps_tied c.args.pages.now c.loop-index.pages c.loop-index.invariant.keeps tied in
    not_own_before (g.P.Pages.store c.args.pages.now).map (g.P.Pages.store c.loop-index.pages).map c.args.numbers.now c.args.numbers.now (c.loop-index.invariant.moves tied)
    (no_fit-not_own (g.P.Pages.store c.loop-index.pages).map c.index-numbers-index.result c.args.numbers.now
    (subst (λ n. 0 < times c.args.numbers.now n) (sym number) (times-there c.args.numbers.now (c.loop-index.index - 1) inside)) (none later)))
    c.loop-index.invariant.works c.in_err-write_part.ensures.works)

pub returns-clause-writes : goal.returns-clause-writes
returns-clause-writes g c = λ tied. record {
  moves = c.loop-index.invariant.moves tied;
  holds = λ own. writes_all (g.P.Pages.store c.loop-index.pages).map c.loop-index.index c.args.numbers.now c.args.bytes.now (omega (arith, c.loop-index-test.false)) (c.loop-index.invariant.holds tied own);
}
