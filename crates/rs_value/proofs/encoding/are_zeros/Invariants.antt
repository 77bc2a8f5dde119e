-- What is left decides.
use Rattle.std.proofs.Common.{◌≡◌, ◌↔◌, length, replicate}
use Rattle.rs_value.proofs.encoding.are_zeros.Given as goal

abbrev pub invariant-loop-first : goal.invariant-loop-first
invariant-loop-first l = (l.rest ≡ replicate (length l.rest) 0) ↔ (l.bytes ≡ replicate (length l.bytes) 0)

abbrev pub decreases-loop-first : goal.decreases-loop-first
decreases-loop-first l = length l.rest
