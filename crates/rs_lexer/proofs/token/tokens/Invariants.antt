use Rattle.std.proofs.Common.{length, ◌-◌}
use Rattle.rs_lexer.proofs.CutLaws.{IsCutSoFar}
use Rattle.rs_lexer.proofs.token.tokens.Given as goal

abbrev pub invariant-loop-place : goal.invariant-loop-place
invariant-loop-place l = IsCutSoFar l.line l.from l.tokens.items l.place

abbrev pub decreases-loop-place : goal.decreases-loop-place
decreases-loop-place l = length l.bytes - l.place
