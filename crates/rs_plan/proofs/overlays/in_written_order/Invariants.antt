use Rattle.std.proofs.Common.{◌≡◌, ◌++◌, length}
use Rattle.rs_plan.specs.Operands.{written_from}
use Rattle.rs_plan.proofs.overlays.in_written_order.Given as goal

abbrev pub invariant-loop-operand : goal.invariant-loop-operand
invariant-loop-operand l = record {
  listed : length l.operand-iterator.rest.items ≡ l.operand-iterator.rest.len;
  whole : l.written.items ++ written_from l.first l.operand-iterator.rest.items ≡ written_from 0 l.fn.operands.items;
}
