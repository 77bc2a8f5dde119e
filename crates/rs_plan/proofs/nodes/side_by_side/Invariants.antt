use Rattle.std.proofs.Common.{◌≡◌, ◌++◌, length}
use Rattle.rs_plan.proofs.nodes.side_by_side.Given as goal

abbrev pub invariant-loop-operand : goal.invariant-loop-operand
invariant-loop-operand l = record {
  listed : length l.operand-iterator.rest.items ≡ l.operand-iterator.rest.len;
  whole : l.all.items ++ l.operand-iterator.rest.items ≡ l.fn.left.items ++ l.fn.right.items;
}
