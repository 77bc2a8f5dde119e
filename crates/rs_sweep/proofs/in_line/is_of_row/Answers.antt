use Rattle.rs_sweep.proofs.PartLaws.{rows-same}
use Rattle.rs_sweep.proofs.in_line.is_of_row.Goals as goal

pub returns : goal.returns
returns c = rows-same c.args.other.now.tuple c.args.span.now.tuple c.same_row.result c.same_row.ensures
