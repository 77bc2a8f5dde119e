use Rattle.std.proofs.Common.{[], map, refl}
use Rattle.std.proofs.lemmas.Result.{IfOk-weaker}
use Rattle.rs_planning.specs.Rule as rule
use Rattle.rs_plan.specs.PlanView.{conditions_of, windows_of, named_by_window}
use Rattle.rs_plan.proofs.NodeLaws.{alone-over, over-above, gaps-over}
use Rattle.rs_plan.proofs.nodes.gaps.Goals as goal

pub returns : goal.returns
returns c =
    IfOk-weaker c.alone.result _ _ (λ made is. alone-over made.items _ _ _ _ _ is
    (over-above c.in_ok-under_where.field-0 c.in_ok-seen.seen _ (rule.under_where (conditions_of c.args.conditions)) _ _ [] _
    (over-above c.in_ok-seen.seen _ _ (rule.under_window (windows_of c.args.windows)) _ _ (map named_by_window c.args.windows.items) _
    (gaps-over c.args.one.plan c.in_ok-new.field-0 c.in_ok-new.ensures.ok c.args.one.weight 0 _ _ refl refl)
    c.in_ok-seen.ensures)
    c.in_ok-under_where.ensures)) c.alone.ensures
