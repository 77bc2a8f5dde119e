-- What is left decides.
use Rattle.std.proofs.Common.{◌≡◌, length}
use Rattle.std.specs.Cmp.Lexicographic.{slice_cmp}
use Rattle.std.specs.Ordering.{nat_cmp}
use Rattle.rs_records.proofs.order.compare.Given as goal

abbrev pub invariant-loop-first : goal.invariant-loop-first
invariant-loop-first l = slice_cmp nat_cmp l.left l.right ≡ slice_cmp nat_cmp l.one l.other

abbrev pub decreases-loop-first : goal.decreases-loop-first
decreases-loop-first l = length l.left
