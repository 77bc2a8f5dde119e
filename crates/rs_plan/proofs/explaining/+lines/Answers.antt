use Rattle.std.proofs.Common.{◌≡◌, ℕ, ◌+◌, List, ◌++◌, map, ap, ◌∙◌, append_assoc, arith}
use Rattle.std.proofs.lemmas.Result.{IfOk-weaker}
use Rattle.rs_planning.specs.Explain.{lines_from}
use Rattle.rs_plan.specs.Lines.{lines_of, lines_from_each}
use Rattle.rs_plan.specs.PlanView.{plan_tree}
use Rattle.rs_plan.proofs.LineLaws.{overlay-lines, cover-lines, merge-lines, minus-lines, follow, grown, each-more}
use Rattle.rs_plan.proofs.explaining.+lines.Goals as goal

-- the lines of one plan and then those of another
after : (a b left right : List (List ℕ)) → b ≡ a ++ left → b ++ right ≡ a ++ (left ++ right)
after a b left right e = ap (λ l. l ++ right) e ∙ append_assoc a left right

pub lines_below-returns-in-Overlay : goal.lines_below-returns-in-Overlay
lines_below-returns-in-Overlay t c =
    IfOk-weaker c.lines_of_each.result _ _ (λ all e. follow (lines_of c.args.lines) (lines_of c.in_ok-lines.lines) (lines_of all) _ _ _ c.in_ok-lines.ensures (overlay-lines c.args.depth c.args.plan.now _ c.in-Overlay.operands c.in-Overlay.is)
    (e ∙ ap (λ zs. lines_of c.in_ok-lines.lines ++ lines_from_each (c.args.depth + 1) (map plan_tree zs)) c.as_slice.ensures.value)) c.lines_of_each.ensures

pub lines_of_each-loop-plan-preserved : goal.lines_of_each-loop-plan-preserved
lines_of_each-loop-plan-preserved t c = record {
  below = let more = grown c.loop-plan.all c.in_ok-all.all (lines_from c.args.depth (plan_tree c.plan-item.result)) c.in_ok-all.ensures in omega (arith, more, c.loop-plan.invariant.below);
  lines = each-more c.args.depth c.args.plans.now c.loop-plan.plan-index c.plan-item.result c.loop-plan-test.true c.plan-item.is (lines_of c.args.lines) (lines_of c.loop-plan.all) (lines_of c.in_ok-all.all) c.loop-plan.invariant.lines c.in_ok-all.ensures;
}

pub lines_below-returns-in_ok-lines-in-Cover : goal.lines_below-returns-in_ok-lines-in-Cover
lines_below-returns-in_ok-lines-in-Cover t c =
    IfOk-weaker c.lines_below-in-Cover-2.result _ _ (λ all e. follow (lines_of c.args.lines) (lines_of c.in_ok-lines.lines) (lines_of all) _ _ _ c.in_ok-lines.ensures (cover-lines c.args.depth c.args.plan.now c.in-Cover.left c.in-Cover.right _ _ c.in-Cover.is)
    (e ∙ after _ _ _ _ c.in_ok-lines-in-Cover.ensures ∙ (λ i. lines_of c.in_ok-lines.lines ++ (lines_from (c.args.depth + 1) (plan_tree (c.deref-in-Cover.ensures i)) ++ lines_from (c.args.depth + 1) (plan_tree (c.deref-in-Cover-2.ensures i)))))) c.lines_below-in-Cover-2.ensures

pub lines_below-returns-in_ok-lines-in-Merge : goal.lines_below-returns-in_ok-lines-in-Merge
lines_below-returns-in_ok-lines-in-Merge t c =
    IfOk-weaker c.lines_below-in-Merge-2.result _ _ (λ all e. follow (lines_of c.args.lines) (lines_of c.in_ok-lines.lines) (lines_of all) _ _ _ c.in_ok-lines.ensures (merge-lines c.args.depth c.args.plan.now c.in-Merge.left c.in-Merge.right c.in-Merge.is)
    (e ∙ after _ _ _ _ c.in_ok-lines-in-Merge.ensures ∙ (λ i. lines_of c.in_ok-lines.lines ++ (lines_from (c.args.depth + 1) (plan_tree (c.deref-in-Merge.ensures i)) ++ lines_from (c.args.depth + 1) (plan_tree (c.deref-in-Merge-2.ensures i)))))) c.lines_below-in-Merge-2.ensures

pub lines_below-returns-in_ok-lines-in-Minus : goal.lines_below-returns-in_ok-lines-in-Minus
lines_below-returns-in_ok-lines-in-Minus t c =
    IfOk-weaker c.lines_below-in-Minus-2.result _ _ (λ all e. follow (lines_of c.args.lines) (lines_of c.in_ok-lines.lines) (lines_of all) _ _ _ c.in_ok-lines.ensures (minus-lines c.args.depth c.args.plan.now c.in-Minus.left c.in-Minus.right c.in-Minus.is)
    (e ∙ after _ _ _ _ c.in_ok-lines-in-Minus.ensures ∙ (λ i. lines_of c.in_ok-lines.lines ++ (lines_from (c.args.depth + 1) (plan_tree (c.deref-in-Minus.ensures i)) ++ lines_from (c.args.depth + 1) (plan_tree (c.deref-in-Minus-2.ensures i)))))) c.lines_below-in-Minus-2.ensures
