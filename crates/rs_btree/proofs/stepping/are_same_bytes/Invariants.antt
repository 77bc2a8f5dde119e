-- What is left decides.
use Rattle.std.proofs.Common.{◌≡◌, length}
use Rattle.rs_btree.proofs.stepping.are_same_bytes.Given as goal

abbrev pub invariant-loop-first : goal.invariant-loop-first
invariant-loop-first l = l.left ≡ l.right → l.one ≡ l.other

abbrev pub decreases-loop-first : goal.decreases-loop-first
decreases-loop-first l = length l.left
