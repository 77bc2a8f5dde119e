use Rattle.std.proofs.Common.{sym, ◌∙◌}
use Rattle.std.proofs.lemmas.Result.{IfOk-weaker}
use Rattle.rs_plan.proofs.Uncounted.{planned-uncounted}
use Rattle.rs_plan.proofs.planning.plan.Goals as goal

pub returns : goal.returns
returns g c = IfOk-weaker c.plan_by-2.result _ _ (λ plan is. planned-uncounted (g.C.Counts.counted c.args.counts.now) c.args.checked plan (sym c.has_overlay.ensures ∙ c.if-has_overlay.false) is) c.plan_by-2.ensures
