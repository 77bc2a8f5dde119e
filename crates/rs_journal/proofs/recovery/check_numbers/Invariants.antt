-- The numbers so far ascend, and no call has failed yet.
use Rattle.std.proofs.Common.{◌≡◌, IsTrue}
use Rattle.rs_disk.specs.Crash.{Same}
use Rattle.rs_journal.specs.Recovery.{NumbersSoFar, number_in}
use Rattle.rs_disk.specs.Reaches.{Reaches}
use Rattle.rs_journal.proofs.recovery.check_numbers.Given as goal

abbrev pub invariant-loop-place : goal.invariant-loop-place
invariant-loop-place g l = record {
  failures : g.D.Disk.failures l.disk ≡ g.D.Disk.failures l.fn.disk;
  reaches : Reaches g.D.Disk Same l.fn.disk l.disk;
  so_far : IsTrue (g.D.Disk.is_honest l.fn.disk) → NumbersSoFar l.fn.first l.place l.least (number_in (g.D.Disk.seen l.fn.disk) l.fn.first);
}
