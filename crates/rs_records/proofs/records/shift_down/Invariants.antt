-- So many bytes have been copied.
use Rattle.std.proofs.Common.{◌≡◌, ◌≤◌, ◌-◌, length, drop}
use lib.Seq.{paste}
use Rattle.rs_records.proofs.records.shift_down.Given as goal

abbrev pub invariant-loop-done : goal.invariant-loop-done
invariant-loop-done l = record {
  within : l.done ≤ l.count;
  size : length l.bytes ≡ length l.fn.bytes;
  copied : l.bytes ≡ paste l.fn.bytes l.to (drop l.start l.fn.bytes) l.done;
}

abbrev pub decreases-loop-done : goal.decreases-loop-done
decreases-loop-done l = l.count - l.done
