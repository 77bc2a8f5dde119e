-- The copies so far are at home, and no call has failed yet.
use Rattle.std.proofs.Common.{◌≡◌, IsTrue}
use Rattle.rs_journal.specs.Stages.{IsLeftAlone, HasHome}
use Rattle.rs_disk.specs.Reaches.{KeepsWhere, Reaches}
use Rattle.rs_journal.proofs.home.write_home_pages.Given as goal

abbrev pub invariant-loop-place : goal.invariant-loop-place
invariant-loop-place g l = record {
  failures : g.D.Disk.failures l.disk ≡ g.D.Disk.failures l.fn.disk;
  reaches : Reaches g.D.Disk (KeepsWhere (IsLeftAlone (g.C.Copies.count l.fn.copies) (g.C.Copies.number l.fn.copies))) l.fn.disk l.disk;
  written : IsTrue (g.D.Disk.is_honest l.fn.disk) → HasHome l.place (g.C.Copies.number l.fn.copies) (g.C.Copies.byte l.fn.copies) (g.D.Disk.seen l.disk);
}
