use Rattle.std.proofs.Common.{◌≡◌, [], length, sym, ap, ◌∙◌}
use Rattle.std.proofs.lemmas.List.{length-map}
use Rattle.std.proofs.lemmas.Result.{IfOk-weaker}
use Rattle.rs_facts.specs.ConditionView.{condition_of}
use Rattle.rs_checker.proofs.ConditionLaws.{is_some}
use Rattle.rs_plan.specs.PlanView.{conditions_of}
use Rattle.rs_plan.proofs.NodeLaws.{some-overlaid}
use Rattle.rs_plan.proofs.nodes.overlay_under_where.Goals as goal

pub returns : goal.returns
returns c =
    let some = λ (e : conditions_of c.args.conditions ≡ []). is_some c.is_empty.result _ _ c.is_empty.ensures c.if-is_empty.false c.args.conditions.ok.0 (sym (length-map c.args.conditions.items condition_of) ∙ ap length e) in
    IfOk-weaker c.alone.result _ _ (λ made is. some-overlaid (conditions_of c.args.conditions) c.args.operands.items made.items c.in_ok-one.one c.in_ok-under_where.field-0 some c.in_ok-one.ensures c.in_ok-under_where.ensures is) c.alone.ensures
