-- Each record so far is below the next.
use Rattle.rs_records.specs.Records.{records}
use Rattle.rs_tree_whole.proofs.Orders.{StepsUp}
use Rattle.rs_tree_whole.proofs.order.ascends.Given as goal

abbrev pub invariant-loop-index : goal.invariant-loop-index
invariant-loop-index l = StepsUp (records l.count l.width l.bytes) l.index
