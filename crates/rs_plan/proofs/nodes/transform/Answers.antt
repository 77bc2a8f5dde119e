use Rattle.std.proofs.Common.{map, refl}
use Rattle.std.proofs.lemmas.Result.{IfOk-weaker}
use Rattle.rs_planning.specs.Rule as rule
use Rattle.rs_plan.specs.PlanView.{windows_of, named_by_window}
use Rattle.rs_plan.proofs.NodeLaws.{alone-over, over-above, transform-over}
use Rattle.rs_plan.proofs.nodes.transform.Goals as goal

pub returns : goal.returns
returns c =
    IfOk-weaker c.alone.result _ _ (λ made is. alone-over made.items _ _ _ _ _ is
    (over-above c.in_ok-under_window.field-0 _ _ (rule.under_window (windows_of c.args.windows)) _ _ (map named_by_window c.args.windows.items) _
    (transform-over c.args.one.plan c.in_ok-new.field-0 c.in_ok-new.ensures.ok c.args.one.weight c.args.one.width _ _ refl refl c.args.name c.in_ok-planned.planned c.args.pieces.now c.in_ok-planned.ensures.means c.in_ok-planned.ensures.names)
    c.in_ok-under_window.ensures)) c.alone.ensures
