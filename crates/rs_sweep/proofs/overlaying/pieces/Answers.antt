use Rattle.std.proofs.Common.{ℕ, Bor, ◌≤◌, ◌+◌, ◌-◌, ◌*◌, ◌^◌, min, inl, inr, List, [], ◌++◌, length, map, sym, ap, ◌∙◌, subst, arith}
use Rattle.std.proofs.lemmas.Bool.{ltb-true, ltb-false}
use Rattle.std.proofs.lemmas.List.{drop_all, take_rest, length-map}
use Rattle.rs_value.specs.declared.column.Kind.TheVariants.{Line}
use Rattle.rs_facts.specs.declared.fact.Span.{Span}
use Rattle.rs_facts.specs.Spans.{seen, ArePlaced}
use Rattle.rs_coalesce.specs.Lent.{seen_lent}
use Rattle.rs_sweep.specs.Inner.{laid}
use Rattle.rs_sweep.specs.Lists.{AreSorted, pairs}
use Rattle.rs_sweep.specs.declared.laying.Side.TheVariants.{Left, Right}
use Rattle.rs_sweep.proofs.LaidSpans.{rest-at}
use Rattle.rs_sweep.proofs.SweptPairs.{Swept, swept-start, swept-end, step-left, step-right}
use Rattle.rs_sweep.proofs.LeastCount.{counts-start, counts-left, counts-right, counts-end}
use Rattle.rs_sweep.proofs.overlaying.pieces.Goals as goal
use Rattle.rs_sweep.proofs.overlaying.pieces.Goals.{then-loop-i-test+else-j-right, else-loop-i-test}

-- at the start nothing is found; the lists are as long as what they mean
start : (left right : List (Bor Span)) (made : ℕ) → AreSorted (map seen_lent left) → AreSorted (map seen_lent right) → ArePlaced Line (map seen_lent left) → ArePlaced Line (map seen_lent right)
    → Swept (map seen_lent left) (map seen_lent right) (map seen_lent left) (map seen_lent right) [] made (made + 2 * (length left + length right) + 2 * pairs (map seen_lent left) (map seen_lent right))
start left right made a b d e =
    subst (λ n. Swept (map seen_lent left) (map seen_lent right) (map seen_lent left) (map seen_lent right) [] made (made + 2 * n + 2 * pairs (map seen_lent left) (map seen_lent right))) (λ i. length-map left seen_lent i + length-map right seen_lent i)
    (swept-start (map seen_lent left) (map seen_lent right) made a b d e)

pub loop-i-init : goal.loop-i-init
loop-i-init c = record {
  left_end = omega arith;
  right_end = omega arith;
  swept = subst (λ zs. Swept (map seen_lent c.args.left.now) (map seen_lent c.args.right.now) (map seen_lent c.args.left.now) (map seen_lent c.args.right.now) (map seen zs) c.args.comparisons.now.made (c.args.comparisons.now.made + 2 * (length c.args.left.now + length c.args.right.now) + 2 * pairs (map seen_lent c.args.left.now) (map seen_lent c.args.right.now))) (sym c.new-found.ensures.items)
      (start c.args.left.now c.args.right.now c.args.comparisons.now.made c.requires.left_sorted c.requires.right_sorted c.requires.left_placed c.requires.right_placed);
  least = counts-start (map seen_lent c.args.left.now) (map seen_lent c.args.right.now) c.args.comparisons.now.made _ _ (length-map c.args.left.now seen_lent) (length-map c.args.right.now seen_lent);
}

pub loop-i-preserved-then-is_below : goal.loop-i-preserved-then-is_below
loop-i-preserved-then-is_below c =
    let below = ltb-true c.index-left-i.result.now.lo c.index-right-j.result.now.lo (sym c.is_below.ensures.answer ∙ c.if-is_below.true) in
    let whole = take_rest c.args.right.now c.loop-i.j in
    let asked = subst (λ zs. c.lay.new.comparisons.made ≤ c.is_below.new.self.made + 1 + 2 * length (laid Left (seen_lent c.index-left-i.result) (map seen_lent zs))) whole c.in_ok-lay.ensures.counted in
    let least = subst (λ zs. min (c.is_below.new.self.made + 2 * length (laid Left (seen_lent c.index-left-i.result) (map seen_lent zs))) (2 ^ 64 - 1) ≤ c.lay.new.comparisons.made) whole c.in_ok-lay.ensures.least in
    record {
      left_end = omega (arith, c.loop-i-test.true);
      right_end = c.loop-i.invariant.right_end;
      swept = step-left _ _ _ _ _ _ _ _ (seen_lent c.index-left-i.result) (seen_lent c.index-right-j.result) _ _ _
          (rest-at c.args.left.now c.loop-i.i c.index-left-i.result c.loop-i-test.true c.index-left-i.is)
          (rest-at c.args.right.now c.loop-i.j c.index-right-j.result c.if-j-right.true c.index-right-j.is)
          c.loop-i.invariant.swept (omega (arith, below))
          (c.in_ok-lay.ensures.found ∙ ap (λ zs. map seen c.loop-i.found.items ++ laid Left (seen_lent c.index-left-i.result) (map seen_lent zs)) whole)
          (omega (arith, asked, c.is_below.ensures.counted));
      least = counts-left _ _ _ (seen_lent c.index-left-i.result) _ _ _
          (rest-at c.args.left.now c.loop-i.i c.index-left-i.result c.loop-i-test.true c.index-left-i.is)
          c.loop-i.invariant.swept.sorted_right c.loop-i.invariant.least (omega (arith, least, c.is_below.ensures.counted));
    }

pub loop-i-preserved : goal.loop-i-preserved
loop-i-preserved c =
    let above = ltb-false c.index-left-i.result.now.lo c.index-right-j.result.now.lo (sym c.is_below.ensures.answer ∙ c.if-is_below.false) in
    let whole = take_rest c.args.left.now c.loop-i.i in
    let asked = subst (λ zs. c.lay-else-is_below.new.comparisons.made ≤ c.is_below.new.self.made + 1 + 2 * length (laid Right (seen_lent c.index-right-j.result) (map seen_lent zs))) whole c.in_ok-lay-2.ensures.counted in
    let least = subst (λ zs. min (c.is_below.new.self.made + 2 * length (laid Right (seen_lent c.index-right-j.result) (map seen_lent zs))) (2 ^ 64 - 1) ≤ c.lay-else-is_below.new.comparisons.made) whole c.in_ok-lay-2.ensures.least in
    record {
      left_end = c.loop-i.invariant.left_end;
      right_end = omega (arith, c.if-j-right.true);
      swept = step-right _ _ _ _ _ _ _ _ (seen_lent c.index-left-i.result) (seen_lent c.index-right-j.result) _ _ _
          (rest-at c.args.left.now c.loop-i.i c.index-left-i.result c.loop-i-test.true c.index-left-i.is)
          (rest-at c.args.right.now c.loop-i.j c.index-right-j.result c.if-j-right.true c.index-right-j.is)
          c.loop-i.invariant.swept above
          (c.in_ok-lay-2.ensures.found ∙ ap (λ zs. map seen c.loop-i.found.items ++ laid Right (seen_lent c.index-right-j.result) (map seen_lent zs)) whole)
          (omega (arith, asked, c.is_below.ensures.counted));
      least = counts-right _ _ _ (seen_lent c.index-right-j.result) _ _ _
          (rest-at c.args.right.now c.loop-i.j c.index-right-j.result c.if-j-right.true c.index-right-j.is)
          c.loop-i.invariant.swept.sorted_left c.loop-i.invariant.least (omega (arith, least, c.is_below.ensures.counted));
    }

pub returns-clause-pieces : goal.returns-clause-pieces
returns-clause-pieces c = swept-end (map seen_lent c.args.left.now) (map seen_lent c.args.right.now) _ _ _ _ _ c.loop-i.invariant.swept (elim c.loop-i-test.branch [
  | then-loop-i-test+else-j-right w ↦ inr (ap (map seen_lent) (drop_all c.loop-i.j c.args.right.now w.if-j-right.false))
  | else-loop-i-test w ↦ inl (ap (map seen_lent) (drop_all c.loop-i.i c.args.left.now w.loop-i-test.false))
])

pub returns-clause-least : goal.returns-clause-least
returns-clause-least c = counts-end _ _ _ _ (elim c.loop-i-test.branch [
  | then-loop-i-test+else-j-right w ↦ inr (ap (map seen_lent) (drop_all c.loop-i.j c.args.right.now w.if-j-right.false))
  | else-loop-i-test w ↦ inl (ap (map seen_lent) (drop_all c.loop-i.i c.args.left.now w.loop-i-test.false))
]) c.loop-i.invariant.least
