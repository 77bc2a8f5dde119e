use Rattle.std.proofs.Common.{map, sym, ◌∙◌}
use Rattle.rs_facts.specs.ConditionView.{condition_of}
use Rattle.rs_plan.proofs.LeafLaws.{among-here, among-later}
use Rattle.rs_plan.proofs.leaves.index_of.Goals as goal

pub returns-then-serves : goal.returns-then-serves
returns-then-serves c = among-here c.args.table (map condition_of c.args.conditions.now) c.args.indexes.now c.loop-index.index-index c.index-item.result c.loop-index-test.true c.index-item.is _ c.loop-index.invariant (sym c.if-serves.true ∙ c.serves.ensures)

pub loop-index-preserved : goal.loop-index-preserved
loop-index-preserved c = among-later c.args.table (map condition_of c.args.conditions.now) c.args.indexes.now c.loop-index.index-index c.index-item.result c.loop-index-test.true c.index-item.is _ c.loop-index.invariant (sym c.if-serves.false ∙ c.serves.ensures)
