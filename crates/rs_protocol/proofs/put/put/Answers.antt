use Rattle.rs_protocol.proofs.Putting.{PutsBut-more, taken_to_end}
use Rattle.rs_protocol.proofs.put.put.Goals as goal

pub loop-rest-preserved : goal.loop-rest-preserved
loop-rest-preserved g c = PutsBut-more _ _ _ _ _ _ _ (taken_to_end c.in-Ok.taken c.loop-rest.rest.now) c.loop-rest.invariant c.in-Ok.ensures.bytes
