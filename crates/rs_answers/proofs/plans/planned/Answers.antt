use Rattle.std.proofs.lemmas.Result.{IfOk-weaker}
use Rattle.rs_answers.proofs.PlannedRows.{plan-formed, plan-kind, plan-by_rule, plan-means}
use Rattle.rs_answers.proofs.plans.planned.Goals as goal

pub returns-clause-formed : goal.returns-clause-formed
returns-clause-formed g c =
    IfOk-weaker c.plan.result _ _ (λ plan plans. plan-formed c.plans_mean_their_queries.ensures c.plans_are_well_formed.ensures c.plans_are_the_same_by_number_and_by_name.ensures
    c.args.catalog.now c.stand.ensures (g.C.Counts.counted c.args.counts.now) c.requires.indexes c.args.checked c.requires.can plan plans) c.plan.ensures

pub returns-clause-kind : goal.returns-clause-kind
returns-clause-kind g c =
    IfOk-weaker c.plan.result _ _ (λ plan plans. plan-kind c.plans_mean_their_queries.ensures c.plans_are_well_formed.ensures c.plans_are_the_same_by_number_and_by_name.ensures
    c.args.catalog.now c.stand.ensures (g.C.Counts.counted c.args.counts.now) c.requires.indexes c.args.checked c.requires.can plan plans) c.plan.ensures

pub returns-clause-by_rule : goal.returns-clause-by_rule
returns-clause-by_rule g c =
    IfOk-weaker c.plan.result _ _ (λ plan plans. plan-by_rule c.plans_mean_their_queries.ensures c.plans_are_well_formed.ensures c.plans_are_the_same_by_number_and_by_name.ensures
    c.args.catalog.now c.stand.ensures (g.C.Counts.counted c.args.counts.now) c.requires.indexes c.args.checked c.requires.can plan plans) c.plan.ensures

pub returns-clause-means : goal.returns-clause-means
returns-clause-means g c =
    IfOk-weaker c.plan.result _ _ (λ plan plans. plan-means c.plans_mean_their_queries.ensures c.plans_are_well_formed.ensures c.plans_are_the_same_by_number_and_by_name.ensures
    c.args.catalog.now c.stand.ensures (g.C.Counts.counted c.args.counts.now) c.requires.indexes c.args.checked c.requires.can plan plans) c.plan.ensures
