use Rattle.std.proofs.Common.{◌≡◌, map, drop}
use Rattle.rs_facts.specs.ConditionView.{condition_of}
use Rattle.rs_plan.specs.Leaves.{index_among}
use Rattle.rs_plan.proofs.leaves.index_of.Given as goal

abbrev pub invariant-loop-index : goal.invariant-loop-index
invariant-loop-index l = index_among l.indexes l.table (map condition_of l.conditions) ≡ index_among (drop l.index-index l.indexes) l.table (map condition_of l.conditions)
