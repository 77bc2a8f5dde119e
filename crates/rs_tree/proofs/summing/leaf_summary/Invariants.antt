-- The summary of the cells so far.
use Rattle.std.proofs.Common.{◌≡◌, take}
use Rattle.rs_records.specs.Records.{records}
use Rattle.rs_tree.specs.Form.{joined}
use Rattle.rs_tree.proofs.summing.leaf_summary.Given as goal

abbrev pub invariant-loop-index : goal.invariant-loop-index
invariant-loop-index g l = l.whole ≡ joined g.S.Summary.unit g.S.Summary.join g.S.Summary.of (take l.index (records l.count l.layout.width l.bytes))
