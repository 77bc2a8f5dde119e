-- So many bytes are left, and those after them have been copied.
use Rattle.std.proofs.Common.{◌≡◌, ◌≤◌, ◌+◌, ◌-◌, length, drop}
use lib.Seq.{paste}
use Rattle.rs_records.proofs.records.shift_up.Given as goal

abbrev pub invariant-loop-left : goal.invariant-loop-left
invariant-loop-left l = record {
  within : l.left ≤ l.count;
  size : length l.bytes ≡ length l.fn.bytes;
  copied : l.bytes ≡ paste l.fn.bytes (l.to + l.left) (drop (l.start + l.left) l.fn.bytes) (l.count - l.left);
}

abbrev pub decreases-loop-left : goal.decreases-loop-left
decreases-loop-left l = l.left
