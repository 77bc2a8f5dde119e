-- One page after the other, each reached once; the rest of any free list begins at the next one.
use Rattle.std.proofs.Common.{◌≡◌, ◌-◌, [], Ok, Err, true≢false, sym, ap, subst, refl, ◌∙◌, arith}
use Rattle.std.proofs.lemmas.Result.{err_from_is_err_and}
use Rattle.rs_catalog_pages.proofs.Counting.{times-cons, times-none}
use Rattle.rs_pages.proofs.Resting.{rests_none, rests_then, rests_ok}
use Rattle.rs_file.proofs.Walked.{HasWalked, free_after, free_before, walked_all, walked_more, walked_none, walked_short, walked_wrong}
use Rattle.rs_refusal.specs.declared.refusal.Refusal.TheVariants as refusal
use Rattle.rs_page_marks.specs.Marks.{taken}
use Rattle.rs_file.proofs.free_pages.reach_free.Goals as goal
use Rattle.rs_file.proofs.free_pages.reach_free.Goals.{then-left-eq0-via-then-left-eq0, then-left-eq0-via-else-left-eq0+then-not-reach}

pub loop-next-init : goal.loop-next-init
loop-next-init g c =
    let map = (g.P.Pages.store c.args.pages.now).map in
    let before = taken c.args.reached.now in
    record {
      rests = rests_none g.P.Pages.is_tied g.P.Pages.store g.P.Pages.keeps tt c.args.pages.now (g.met.P.Pages.keeps_refl c.args.pages.now);
      size = refl;
      walked = λ tied.
          subst (λ n. HasWalked map n c.free_list-first.result.1 before before) (sym c.free_list-first.ensures.first)
          (subst (λ k. HasWalked map map.fields.first_free k before before) (sym c.free_list-first.ensures.count) (walked_none map before));
    }

pub returns-then-left-eq0-clause-reaches : goal.returns-then-left-eq0-clause-reaches
returns-then-left-eq0-clause-reaches g c = λ tied. record {
  reaches = tt;
  damaged = λ is.
      walked_wrong (g.P.Pages.store c.args.pages.now).map c.loop-next.next c.loop-next.left (taken c.args.reached.now) (taken c.loop-next.reached) (c.loop-next.invariant.walked tied)
      (λ none. c.loop-next-test.true (c.number.ensures ∙ none))
      (elim c.then-left-eq0.branch [
        | then-left-eq0-via-then-left-eq0 w ↦ λ some. absurd (omega (arith, some, w.if-left-eq0.true))
        | then-left-eq0-via-else-left-eq0+then-not-reach w ↦ λ some fresh. absurd (true≢false (sym (w.reach.ensures.free.1 fresh) ∙ w.if-not-reach.true))
      ]);
}

pub returns-in_err-next-clause-reaches : goal.returns-in_err-next-clause-reaches
returns-in_err-next-clause-reaches g c = λ tied. record {
  reaches = let q = err_from_is_err_and c.from_residual.result c.from_residual.ensures.1 in rw (q.1) tt;
  damaged = λ is.
      let old = (g.P.Pages.store c.args.pages.now).map in
      let mid = (g.P.Pages.store c.loop-next.pages).map in
      let p = err_from_is_err_and c.from_residual.result c.from_residual.ensures.1 in
      let why : c.in_err-next.field-0.0 ≡ refusal.DamagedFile = cc (p.1, p.2, is) in
      let later = g.met.P.Pages.keeps_tied c.args.pages.now c.loop-next.pages c.loop-next.invariant.rests.below tied in
      walked_wrong old c.loop-next.next c.loop-next.left (taken c.args.reached.now) (taken c.loop-next.reached) (c.loop-next.invariant.walked tied)
      (λ none. c.loop-next-test.true (c.number.ensures ∙ none))
      (λ some fresh following free. c.in_err-next.ensures.damaged later (ap Err why) following (free_after old mid c.loop-next.next following (c.loop-next.invariant.rests.rests.keeps.pages tied) free));
}

pub loop-next-preserved : goal.loop-next-preserved
loop-next-preserved g c =
    let old = (g.P.Pages.store c.args.pages.now).map in
    let mid = (g.P.Pages.store c.loop-next.pages).map in
    record {
      rests = rests_then g.P.Pages.is_tied g.P.Pages.store g.P.Pages.keeps tt (Ok tt) c.args.pages.now c.loop-next.pages c.next_free.new.self g.met.P.Pages.keeps_trans g.met.P.Pages.keeps_tied
          c.loop-next.invariant.rests (rests_ok g.P.Pages.is_tied g.P.Pages.store g.P.Pages.keeps c.in_ok-next.next tt c.loop-next.pages c.next_free.new.self c.in_ok-next.ensures.rests);
      size = c.reach.ensures.size ∙ c.loop-next.invariant.size;
      walked = λ tied.
          let later = g.met.P.Pages.keeps_tied c.args.pages.now c.loop-next.pages c.loop-next.invariant.rests.below tied in
          let some : c.loop-next.left ≡ 0 → ⊥ = c.if-left-eq0.false in
          walked_more old c.loop-next.next c.in_ok-next.next c.loop-next.left (c.loop-next.left - 1) (taken c.args.reached.now) (taken c.loop-next.reached) (taken c.reach.new.self)
          (c.loop-next.invariant.walked tied)
          (free_before old mid c.loop-next.next c.in_ok-next.next (c.loop-next.invariant.rests.rests.keeps.pages tied) (c.in_ok-next.ensures.free later))
          (omega (arith, some))
          (λ n. omega (arith, c.reach.ensures.reaches c.if-not-reach.false n, times-cons c.loop-next.next [] n, times-none n));
    }

pub returns-then-left-ne0-clause-reaches : goal.returns-then-left-ne0-clause-reaches
returns-then-left-ne0-clause-reaches g c = λ tied. record {
  reaches = tt;
  damaged = λ is.
      walked_short (g.P.Pages.store c.args.pages.now).map c.loop-next.next c.loop-next.left (taken c.args.reached.now) (taken c.loop-next.reached) (c.loop-next.invariant.walked tied)
      (sym c.number.ensures ∙ c.loop-next-test.false) c.if-left-ne0.true;
}

pub returns-clause-reaches : goal.returns-clause-reaches
returns-clause-reaches g c = λ tied. record {
  reaches = walked_all (g.P.Pages.store c.args.pages.now).map c.loop-next.next c.loop-next.left (taken c.args.reached.now) (taken c.loop-next.reached) (c.loop-next.invariant.walked tied)
      (sym c.number.ensures ∙ c.loop-next-test.false) c.if-left-ne0.false;
  damaged = λ is. absurd (cc);
}
