-- The pages of numbers so far are on the disk, and no call has failed yet.
use Rattle.std.proofs.Common.{◌≡◌, ◌+◌, ◌*◌, IsTrue}
use Rattle.rs_page.specs.declared.page.TheConstants.{PAGE_SIZE}
use Rattle.rs_journal.specs.Journal.{HasNumbers, number_pages}
use Rattle.rs_disk.specs.Reaches.{IsOutside, KeepsWhere, Reaches}
use Rattle.rs_journal.proofs.journal.write_numbers.Given as goal

abbrev pub invariant-loop-page : goal.invariant-loop-page
invariant-loop-page g l = record {
  failures : g.D.Disk.failures l.disk ≡ g.D.Disk.failures l.fn.disk;
  reaches : Reaches g.D.Disk (KeepsWhere (IsOutside (PAGE_SIZE * l.fn.first) (PAGE_SIZE * (l.fn.first + number_pages (g.C.Copies.count l.fn.copies))))) l.fn.disk l.disk;
  written : IsTrue (g.D.Disk.is_honest l.fn.disk) → HasNumbers l.fn.first l.page (g.C.Copies.count l.fn.copies) (g.C.Copies.number l.fn.copies) (g.D.Disk.seen l.disk);
}
