use Rattle.std.proofs.Common.{◌-◌, ◌^◌, length, min, refl, ap, ◌∙◌}
use Rattle.std.proofs.lemmas.Result.{IfOk-weaker}
use Rattle.rs_plan.proofs.NodeLaws.{alone-over, dissolve-over}
use Rattle.rs_plan.proofs.nodes.dissolve.Goals as goal

pub returns : goal.returns
returns c =
    IfOk-weaker c.alone.result _ _ (λ made is. alone-over made.items _ _ _ _ _ is
    (dissolve-over c.args.one.plan c.in_ok-new.field-0 c.in_ok-new.ensures.ok c.args.one.weight c.count-width.result _ _ refl (c.count-width.ensures ∙ ap (λ l. min (length l) (2 ^ 8 - 1)) c.as_slice.ensures.value) c.args.columns)) c.alone.ensures
