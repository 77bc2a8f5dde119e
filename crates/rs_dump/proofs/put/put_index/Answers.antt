-- Want of memory comes before the line.
use Rattle.rs_dump.proofs.Stops.{memory_wanted}
use Rattle.rs_dump.proofs.put.put_index.Goals as goal

pub returns-in_err-push_index_line : goal.returns-in_err-push_index_line
returns-in_err-push_index_line g c = memory_wanted c.from_residual.result _ _ (g.W.Write.contents c.args.output.now) c.from_residual.ensures.1
