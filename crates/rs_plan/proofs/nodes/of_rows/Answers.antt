use Rattle.std.proofs.Common.{refl}
use Rattle.std.proofs.lemmas.Result.{IfOk-weaker}
use Rattle.rs_plan.proofs.NodeLaws.{alone-over, rows-over}
use Rattle.rs_plan.proofs.nodes.of_rows.Goals as goal

pub returns : goal.returns
returns c =
    IfOk-weaker c.alone.result _ _ (λ made is. alone-over made.items _ _ _ _ _ is
    (rows-over c.args.left.plan c.args.right.plan c.in_ok-first.first c.in_ok-second.second c.in_ok-first.ensures.ok c.in_ok-second.ensures.ok c.saturating_add-weight.result c.args.left.width _ _ c.saturating_add-weight.ensures refl
    c.args.operator c.plan_of_rows.result c.plan_of_rows.ensures.tree c.plan_of_rows.ensures.names)) c.alone.ensures
