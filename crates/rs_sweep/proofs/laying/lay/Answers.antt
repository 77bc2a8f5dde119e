use Rattle.std.proofs.Common.{◌≡◌, ◌+◌, true, false, [], ◌++◌, length, map, drop, refl, sym, ap, ◌∙◌, arith}
use Rattle.std.proofs.lemmas.List.{drop_all}
use Rattle.std.specs.Prelude.{nat_lt}
use Rattle.rs_facts.specs.Spans.{seen}
use Rattle.rs_coalesce.specs.Lent.{seen_lent}
use Rattle.rs_sweep.specs.Inner.{laid}
use Rattle.rs_sweep.proofs.LaidSpans.{rest-at, laid-none, found-more, found-length, found-all}
use Rattle.rs_sweep.proofs.laying.lay.Goals as goal

pub loop-other-init : goal.loop-other-init
loop-other-init c = record {
  so_far = refl;
  counted = omega arith;
  least = omega arith;
}

pub loop-other-preserved : goal.loop-other-preserved
loop-other-preserved c =
    let rest = rest-at c.args.others.now c.loop-other.other-index c.other-item.result c.loop-other-test.true c.other-item.is in
    let met : nat_lt c.other-item.result.now.lo c.args.one.now.hi ≡ true = sym c.is_below.ensures.answer ∙ c.if-not-is_below.false in
    let long = found-length c.args.side (seen c.args.one.now) (seen_lent c.other-item.result) _ _ rest met in
    record {
      so_far = ap (λ zs. map seen zs ++ laid c.args.side (seen c.args.one.now) (map seen_lent (drop (c.loop-other.other-index + 1) c.args.others.now))) c.in_ok-push.ensures.items
          ∙ found-more c.args.side (seen c.args.one.now) c.loop-other.found.items c.in_ok-piece.field-0 (seen_lent c.other-item.result) _ _ _ rest met c.in_ok-piece.ensures.piece c.loop-other.invariant.so_far;
      counted = omega (arith, long, c.is_below.ensures.counted, c.in_ok-piece.ensures.counted, c.loop-other.invariant.counted);
      least = omega (arith, long, c.is_below.ensures.counted, c.in_ok-piece.ensures.counted, c.loop-other.invariant.least);
    }

pub returns-after-loop-other : goal.returns-after-loop-other
returns-after-loop-other c =
    let none : laid c.args.side (seen c.args.one.now) (map seen_lent (drop c.loop-other.other-index c.args.others.now)) ≡ [] = ap (λ zs. laid c.args.side (seen c.args.one.now) (map seen_lent zs)) (drop_all c.loop-other.other-index c.args.others.now c.loop-other-test.false) in
    record {
      found = found-all (map seen c.loop-other.found.items) _ _ none c.loop-other.invariant.so_far;
      counted = omega (arith, c.loop-other.invariant.counted);
      least = (let done : length (laid c.args.side (seen c.args.one.now) (map seen_lent (drop c.loop-other.other-index c.args.others.now))) ≡ 0 = ap length none in omega (arith, done, c.loop-other.invariant.least));
    }

pub returns-then-not-is_below : goal.returns-then-not-is_below
returns-then-not-is_below c =
    let rest = rest-at c.args.others.now c.loop-other.other-index c.other-item.result c.loop-other-test.true c.other-item.is in
    let far : nat_lt c.other-item.result.now.lo c.args.one.now.hi ≡ false = sym c.is_below.ensures.answer ∙ c.if-not-is_below.true in
    let none = ap (laid c.args.side (seen c.args.one.now)) rest ∙ laid-none c.args.side (seen c.args.one.now) (seen_lent c.other-item.result) _ far in
    record {
      found = found-all (map seen c.loop-other.found.items) _ _ none c.loop-other.invariant.so_far;
      counted = omega (arith, c.is_below.ensures.counted, c.loop-other.invariant.counted);
      least = (let done : length (laid c.args.side (seen c.args.one.now) (map seen_lent (drop c.loop-other.other-index c.args.others.now))) ≡ 0 = ap length none in omega (arith, done, c.is_below.ensures.counted, c.loop-other.invariant.least));
    }
