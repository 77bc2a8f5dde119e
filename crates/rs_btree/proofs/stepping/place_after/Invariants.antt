-- The key is not below what is before the lower end, and below what is at the upper end.
use Rattle.std.proofs.Common.{◌≡◌, ◌<◌, ◌≤◌, ◌-◌, ℕ, suc, true, false, [], slice_index_or}
use Rattle.rs_records.specs.Order.{is_below}
use Rattle.rs_records.specs.Records.{records, keys}
use Rattle.rs_btree.proofs.stepping.place_after.Given as goal

abbrev pub invariant-loop-low : goal.invariant-loop-low
invariant-loop-low l = record {
  ends : l.low ≤ l.high;
  within : l.high ≤ l.count;
  before : (last : ℕ) → suc last ≡ l.low → is_below l.key (slice_index_or (keys l.from (records l.count l.width l.bytes)) last []) ≡ false;
  after : l.high < l.count → is_below l.key (slice_index_or (keys l.from (records l.count l.width l.bytes)) l.high []) ≡ true;
}

abbrev pub decreases-loop-low : goal.decreases-loop-low
decreases-loop-low l = l.high - l.low
