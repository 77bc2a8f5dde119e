use Rattle.rs_plan.specs.PlanView.{conditions_of}
use Rattle.rs_plan.proofs.WholePlans.{planned}
use Rattle.rs_plan.proofs.planning.plan_by.Goals as goal

pub returns : goal.returns
returns g c =
    planned (g.C.Counts.counted c.args.counts.now) c.args.checked c.nothing.result.windows.items (conditions_of c.nothing.result.conditions) c.in_ok-one.one c.nothing.ensures.windows c.nothing.ensures.conditions c.in_ok-one.ensures
