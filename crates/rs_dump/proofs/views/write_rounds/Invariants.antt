-- So many rounds have written so many views at least.
use Rattle.std.proofs.Common.{◌≤◌, length}
use Rattle.rs_dump.specs.Views.{Goes}
use Rattle.rs_dump.proofs.views.write_rounds.Given as goal

abbrev pub invariant-loop-round : goal.invariant-loop-round
invariant-loop-round g l = record {
  goes : Goes l.defined l.fn.sorted l.sorted (g.W.Write.contents l.fn.output) (g.W.Write.contents l.output);
  count : l._round ≤ length l.sorted.written.items;
}
