-- What is before the lower end is below the key, and what is at the upper end is not.
use Rattle.std.proofs.Common.{◌≡◌, ◌<◌, ◌≤◌, ◌-◌, ℕ, suc, true, false, [], slice_index_or}
use Rattle.rs_records.specs.Order.{is_below}
use Rattle.rs_records.specs.Records.{records, keys}
use Rattle.rs_records.proofs.records.place.Given as goal

abbrev pub invariant-loop-low : goal.invariant-loop-low
invariant-loop-low l = record {
  ends : l.low ≤ l.high;
  within : l.high ≤ l.count;
  before : (last : ℕ) → suc last ≡ l.low → is_below (slice_index_or (keys l.from (records l.count l.width l.bytes)) last []) l.key ≡ true;
  after : l.high < l.count → is_below (slice_index_or (keys l.from (records l.count l.width l.bytes)) l.high []) l.key ≡ false;
}

abbrev pub decreases-loop-low : goal.decreases-loop-low
decreases-loop-low l = l.high - l.low
