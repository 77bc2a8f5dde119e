use Rattle.std.proofs.Common.{◌≤◌, map, ◌∙◌, arith}
use Rattle.std.proofs.lemmas.Result.{IfOk-weaker}
use Rattle.rs_facts.specs.ConditionView.{condition_of}
use Rattle.rs_plan.specs.Leaves.{index_among, access_for}
use Rattle.rs_plan.specs.Operands.{most_records}
use Rattle.rs_plan.proofs.LeafLaws.{leaf-placed}
use Rattle.rs_plan.proofs.leaves.leaf.Goals as goal

pub returns : goal.returns
returns g c =
    let light : c.records.result ≤ most_records = omega (arith, c.records.ensures.few) in
    IfOk-weaker c.alone.result _ _ (λ operands is. leaf-placed (g.C.Counts.counted c.args.counts.now) c.args.table c.args.asked.windows c.args.asked.conditions c.access_of-access.result
    (c.access_of-access.ensures ∙ (λ i. access_for (index_among (c.indexes.ensures i) c.args.table.number (map condition_of (c.as_slice-2.ensures.value i))) (c.as_slice.ensures.value i)))
    c.planned_table.result c.planned_table.ensures c.records.result c.records.ensures.records light operands.items is) c.alone.ensures
