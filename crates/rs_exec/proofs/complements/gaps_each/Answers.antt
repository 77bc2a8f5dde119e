-- Each number that comes has its rows, since there are as many of either.
use Rattle.std.proofs.Common.{length, map, get_or, sym, ap, subst, arith}
use Rattle.std.specs.List.{zip}
use Rattle.std.specs.Option.{option_to_list}
use Rattle.rs_facts.specs.Spans.{seen}
use Rattle.rs_exec.specs.Gaps.{HasShape, HaveShapes, AreGapsOf, HasGaps}
use Rattle.rs_exec.proofs.Lists.{Zips, zips-none, zips-next, zips-all, more-numbers, end, some-second, both-firsts, first-given}
use Rattle.rs_exec.proofs.complements.gaps_each.Goals as goal

pub loop-number-init : goal.loop-number-init
loop-number-init g c =
    let rows = c.into_iter-rows.ensures.rest in record {
      counted = let e = ap length rows in let f = c.into_iter-rows.ensures.len in omega (arith, e, f);
      can = subst (HaveShapes c.args.numbers.now) (sym rows) c.requires.shaped;
      made = subst (λ rest. Zips (HasGaps (g.S.Source.is c.args.source.now) c.args.version) (zip c.args.numbers.now c.args.rows.items) rest c.new-made.result.items) (sym (ap (zip c.args.numbers.now) rows))
          (zips-none (HasGaps (g.S.Source.is c.args.source.now) c.args.version) _ _ c.new-made.ensures.items);
    }

pub unwrap-spans-requires : goal.unwrap-spans-requires
unwrap-spans-requires g c =
    c.next.ensures.variant.1 (let some = some-second (λ number each. HasShape (map seen each.items)) _ _ _ _ c.loop-number.invariant.can (more-numbers c.args.numbers.now c.loop-number.number-index c.loop-number-test.true) in omega (arith, some, c.loop-number.invariant.counted))

pub gaps_of-requires : goal.gaps_of-requires
gaps_of-requires g c =
    let spans = first-given _ _ _ _ c.next.ensures.items c.unwrap-spans.ensures in record {
      shaped = subst (λ items. HasShape (map seen items)) (sym c.deref.ensures.value)
          (both-firsts (λ number each. HasShape (map seen each.items)) _ _ _ _ _ _ c.loop-number.invariant.can (more-numbers c.args.numbers.now c.loop-number.number-index c.loop-number-test.true) spans).0;
    }

pub loop-number-preserved : goal.loop-number-preserved
loop-number-preserved g c =
    let spans = first-given _ _ _ _ c.next.ensures.items c.unwrap-spans.ensures in
    let numbers = more-numbers c.args.numbers.now c.loop-number.number-index c.loop-number-test.true in record {
      counted = let e = ap length spans in let f = c.next.ensures.len in let h = ap (λ o. length (option_to_list o)) c.unwrap-spans.ensures in omega (arith, e, f, h, c.loop-number.invariant.counted);
      can = (both-firsts (λ number each. HasShape (map seen each.items)) _ _ _ _ _ _ c.loop-number.invariant.can numbers spans).1;
      made = zips-next (HasGaps (g.S.Source.is c.args.source.now) c.args.version) _ _ _ _ _ _ _ c.loop-number.invariant.made (λ i. zip (numbers i) (spans i)) c.in_ok-push.ensures.items
          (subst (λ items. AreGapsOf (g.S.Source.is c.args.source.now) c.args.version (get_or c.args.numbers.now c.loop-number.number-index 0) (map seen items) (map seen c.in_ok-gaps_of.field-0.items)) c.deref.ensures.value c.in_ok-gaps_of.ensures);
    }

pub returns : goal.returns
returns g c = zips-all (HasGaps (g.S.Source.is c.args.source.now) c.args.version) _ _ _ c.loop-number.invariant.made
    (ap (λ numbers. zip numbers c.loop-number.rows.rest.items) (end c.args.numbers.now c.loop-number.number-index c.loop-number-test.false))
