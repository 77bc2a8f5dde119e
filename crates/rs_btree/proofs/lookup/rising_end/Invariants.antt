-- The cells so far ascend.
use Rattle.std.proofs.Common.{◌<◌, ◌≤◌, ◌-◌, length}
use Rattle.rs_records.specs.Listed.{listed}
use Rattle.rs_btree.specs.Looking.{AreRising}
use Rattle.rs_btree.proofs.lookup.rising_end.Given as goal

abbrev pub invariant-loop-end : goal.invariant-loop-end
invariant-loop-end l = record {
  after : l.from < l.end;
  within : l.end ≤ length (listed l.cells);
  rising : AreRising (listed l.cells) l.from l.end;
}

abbrev pub decreases-loop-end : goal.decreases-loop-end
decreases-loop-end l = length (listed l.cells) - l.end
