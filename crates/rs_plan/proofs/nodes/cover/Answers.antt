use Rattle.std.proofs.Common.{[]}
use Rattle.std.proofs.lemmas.Result.{IfOk-weaker}
use Rattle.rs_planning.specs.Rule as rule
use Rattle.rs_plan.specs.PlanView.{conditions_of}
use Rattle.rs_plan.proofs.NodeLaws.{alone-over, over-above, cover-over}
use Rattle.rs_plan.proofs.nodes.cover.Goals as goal

pub returns : goal.returns
returns c =
    IfOk-weaker c.alone.result _ _ (λ made is. alone-over made.items _ _ _ _ _ is
    (over-above c.in_ok-under_where.field-0 _ _ (rule.under_where (conditions_of c.args.conditions)) _ _ [] _
    (cover-over c.args.left.plan c.args.right.plan c.in_ok-new.field-0 c.in_ok-new-2.field-0 c.in_ok-new.ensures.ok c.in_ok-new-2.ensures.ok c.saturating_add-weight.result c.saturating_add-width.result _ _ c.saturating_add-weight.ensures c.saturating_add-width.ensures c.args.left_width c.args.right_width)
    c.in_ok-under_where.ensures)) c.alone.ensures
