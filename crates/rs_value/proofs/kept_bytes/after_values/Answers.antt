use Rattle.rs_value.proofs.KeptReading.{dropped_more}
use Rattle.rs_value.proofs.kept_bytes.after_values.Goals as goal

pub loop-preserved : goal.loop-preserved
loop-preserved c row h = dropped_more c.loop.rest.now _ c.loop.counter row c.split_first.ensures.rest (c.loop.invariant row h)
