-- What is before the lower end is below the key.
use Rattle.std.proofs.Common.{◌≡◌, ◌≤◌, ◌<◌, ◌+◌, ◌-◌, true}
use Rattle.rs_records.specs.Listed.{listed}
use Rattle.rs_records.specs.Order.{is_below}
use Rattle.rs_btree.specs.Looking.{OfEach}
use Rattle.rs_btree.proofs.stepping.run_end.Given as goal

abbrev pub invariant-loop-low : goal.invariant-loop-low
invariant-loop-low l = record {
  ends : l.low ≤ l.high;
  after : l.from < l.low;
  within : l.high ≤ l.to;
  below : OfEach (λ cell. is_below cell l.key ≡ true) (listed l.cells) (l.from + 1) l.low;
}

abbrev pub decreases-loop-low : goal.decreases-loop-low
decreases-loop-low l = l.high - l.low
