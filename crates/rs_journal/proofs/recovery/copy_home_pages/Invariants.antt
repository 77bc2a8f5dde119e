-- The copies so far are at home, and no call has failed yet.
use Rattle.std.proofs.Common.{◌≡◌, ◌≤◌, IsTrue}
use Rattle.rs_journal.specs.Journal.{Journal}
use Rattle.rs_journal.specs.Stages.{IsLeftAlone, HasHome}
use Rattle.rs_journal.specs.Recovery.{IsThere}
use Rattle.rs_disk.specs.Reaches.{KeepsWhere, Reaches}
use Rattle.rs_journal.proofs.recovery.copy_home_pages.Given as goal

abbrev pub invariant-loop-place : goal.invariant-loop-place
invariant-loop-place g l = record {
  failures : g.D.Disk.failures l.disk ≡ g.D.Disk.failures l.fn.disk;
  honesty : g.D.Disk.is_honest l.disk ≡ g.D.Disk.is_honest l.fn.disk;
  keeping : g.D.Disk.keeps_crashes l.disk ≡ g.D.Disk.keeps_crashes l.fn.disk;
  reaches : (journal : Journal) → IsTrue (g.D.Disk.is_honest l.fn.disk) → IsThere l.fn.first l.fn.count journal (g.D.Disk.seen l.fn.disk)
      → Reaches g.D.Disk (KeepsWhere (IsLeftAlone journal.count journal.number)) l.fn.disk l.disk;
  no_longer : (journal : Journal) → IsTrue (g.D.Disk.is_honest l.fn.disk) → IsThere l.fn.first l.fn.count journal (g.D.Disk.seen l.fn.disk)
      → (g.D.Disk.seen l.disk).size ≤ (g.D.Disk.seen l.fn.disk).size;
  written : (journal : Journal) → IsTrue (g.D.Disk.is_honest l.fn.disk) → IsThere l.fn.first l.fn.count journal (g.D.Disk.seen l.fn.disk)
      → HasHome l.place journal.number journal.copy (g.D.Disk.seen l.disk);
}
