-- The copies so far are in the buffer, and no call has failed yet.
use Rattle.std.proofs.Common.{◌≡◌, ◌≤◌, ◌+◌, ◌*◌, length, slice_index, IsTrue}
use Rattle.rs_disk.specs.Content.{Gives}
use Rattle.rs_disk.specs.Crash.{Same}
use Rattle.rs_disk.specs.Reaches.{Reaches}
use Rattle.rs_page.specs.declared.page.TheConstants.{PAGE_SIZE}
use Rattle.rs_journal.specs.Journal.{Ascends}
use Rattle.rs_journal.specs.Look.{GivesBytes, copied_byte}
use Rattle.rs_journal.proofs.look.put_copies.Given as goal

abbrev pub invariant-loop-place : goal.invariant-loop-place
invariant-loop-place g l = record {
  failures : g.D.Disk.failures l.disk ≡ g.D.Disk.failures l.fn.disk;
  inside : l.place ≤ length l.fn.look.numbers.items;
  reaches : Reaches g.D.Disk Same l.fn.disk l.disk;
  put : IsTrue (g.D.Disk.is_honest l.fn.disk) → Ascends (length l.fn.look.numbers.items) (slice_index l.fn.look.numbers.items)
      → Gives (g.D.Disk.seen l.fn.disk) l.fn.at l.fn.buffer
      → GivesBytes (copied_byte (slice_index l.fn.look.numbers.items)
      (λ k j. (g.D.Disk.seen l.fn.disk).byte (PAGE_SIZE * (l.fn.look.copies + k) + j)) (g.D.Disk.seen l.fn.disk).byte l.place) l.fn.at l.buffer;
}
