-- The cells so far are each one of the leaf's.
use Rattle.std.proofs.Common.{◌≤◌}
use Rattle.std.specs.List.{Contains}
use Rattle.rs_records.specs.Listed.{listed}
use Rattle.rs_records.specs.Order.{Ascends}
use Rattle.rs_records.specs.Records.{records}
use Rattle.rs_btree.specs.Looking.{OfEach}
use Rattle.rs_btree.proofs.stepping.missing_in_leaf.Given as goal

abbrev pub invariant-loop-place : goal.invariant-loop-place
invariant-loop-place l = record {
  upto : l.near ≤ l.count;
  after : l.from ≤ l.place;
  ends : l.place ≤ l.to;
  has : Ascends (records l.count l.width l.bytes) → OfEach (Contains (records l.count l.width l.bytes)) (listed l.cells) l.from l.place;
}
