-- The numbers so far are read, there is room for the others, and no call has failed yet.
use Rattle.std.proofs.Common.{◌≡◌, ℕ, ◌<◌, ◌≤◌, slice_index, vec_len, vec_capacity, IsTrue}
use Rattle.rs_disk.specs.Crash.{Same}
use Rattle.rs_disk.specs.Reaches.{Reaches}
use Rattle.rs_journal.specs.Recovery.{number_in}
use Rattle.rs_journal.proofs.look.read_numbers.Given as goal

abbrev pub invariant-loop-place : goal.invariant-loop-place
invariant-loop-place g l = record {
  failures : g.D.Disk.failures l.disk ≡ g.D.Disk.failures l.fn.disk;
  reaches : Reaches g.D.Disk Same l.fn.disk l.disk;
  so_many : vec_len l.numbers ≡ l.place;
  room : l.fn.count ≤ vec_capacity l.numbers;
  each : IsTrue (g.D.Disk.is_honest l.fn.disk) → (k : ℕ) → k < l.place
      → slice_index l.numbers.items k ≡ number_in (g.D.Disk.seen l.fn.disk) l.fn.first k;
}
