use Rattle.std.proofs.Common.{length}
use Rattle.rs_protocol.specs.Inner.{PutsBut}
use Rattle.rs_protocol.proofs.put.put.Given as goal

abbrev pub invariant-loop-rest : goal.invariant-loop-rest
invariant-loop-rest g l = PutsBut l.fn.bytes l.rest (g.W.Write.contents l.fn.writer) (g.W.Write.contents l.writer)

abbrev pub decreases-loop-rest : goal.decreases-loop-rest
decreases-loop-rest g l = length l.rest
