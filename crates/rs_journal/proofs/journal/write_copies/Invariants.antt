-- The copies so far are on the disk, and no call has failed yet.
use Rattle.std.proofs.Common.{◌≡◌, ◌+◌, ◌*◌, IsTrue}
use Rattle.rs_page.specs.declared.page.TheConstants.{PAGE_SIZE}
use Rattle.rs_journal.specs.Journal.{HasCopies}
use Rattle.rs_disk.specs.Reaches.{IsOutside, KeepsWhere, Reaches}
use Rattle.rs_journal.proofs.journal.write_copies.Given as goal

abbrev pub invariant-loop-place : goal.invariant-loop-place
invariant-loop-place g l = record {
  failures : g.D.Disk.failures l.disk ≡ g.D.Disk.failures l.fn.disk;
  reaches : Reaches g.D.Disk (KeepsWhere (IsOutside (PAGE_SIZE * l.fn.start) (PAGE_SIZE * (l.fn.start + g.C.Copies.count l.fn.copies)))) l.fn.disk l.disk;
  written : IsTrue (g.D.Disk.is_honest l.fn.disk) → HasCopies l.fn.start l.place (g.C.Copies.byte l.fn.copies) (g.D.Disk.seen l.disk);
}
