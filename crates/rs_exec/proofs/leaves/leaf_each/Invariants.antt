use Rattle.std.proofs.Common.{drop}
use Rattle.rs_exec.specs.Held.{HoldsRows, AreJoinedIn}
use Rattle.rs_exec.specs.Leaving.{LeavesBehind}
use Rattle.rs_exec.specs.Meaning.{leaf_meaning}
use Rattle.rs_exec.proofs.Lists.{Zips}
use Rattle.rs_exec.proofs.leaves.leaf_each.Given as goal

abbrev pub invariant-loop-number : goal.invariant-loop-number
invariant-loop-number g l = record {
  held : Zips (HoldsRows (g.S.Source.is l.fn.source) l.version (leaf_meaning l.leaf)) l.numbers (drop l.number-index l.numbers) l.rows.items;
  joined : AreJoinedIn (g.S.Source.is l.fn.source) l.leaf.table.kind l.rows.items;
  leaves : LeavesBehind g.S.Source l.fn.source l.source;
}
