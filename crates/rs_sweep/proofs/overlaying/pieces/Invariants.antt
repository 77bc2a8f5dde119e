use Rattle.std.proofs.Common.{◌+◌, ◌*◌, ◌-◌, ◌≤◌, min, length, map, drop}
use Rattle.rs_facts.specs.Spans.{seen}
use Rattle.rs_coalesce.specs.Lent.{seen_lent}
use Rattle.rs_sweep.specs.Lists.{pairs}
use Rattle.rs_sweep.proofs.SweptPairs.{Swept}
use Rattle.rs_sweep.proofs.LeastCount.{Counts}
use Rattle.rs_sweep.proofs.overlaying.pieces.Given as goal

abbrev pub invariant-loop-i : goal.invariant-loop-i
invariant-loop-i l = record {
  left_end : l.i ≤ length l.left;
  right_end : l.j ≤ length l.right;
  swept : Swept (map seen_lent l.left) (map seen_lent l.right) (map seen_lent (drop l.i l.left)) (map seen_lent (drop l.j l.right)) (map seen l.found.items) l.comparisons.made
      (l.fn.comparisons.made + 2 * (length l.left + length l.right) + 2 * pairs (map seen_lent l.left) (map seen_lent l.right));
  least : Counts (map seen_lent (drop l.i l.left)) (map seen_lent (drop l.j l.right)) l.comparisons.made
      (l.fn.comparisons.made + min (length l.left) (length l.right) + 2 * pairs (map seen_lent l.left) (map seen_lent l.right));
}

abbrev pub decreases-loop-i : goal.decreases-loop-i
decreases-loop-i l = (length l.left - l.i) + (length l.right - l.j)
