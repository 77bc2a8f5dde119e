-- In its line, or before it.
use Rattle.rs_dump.proofs.Fitting.{stops_fitting}
use Rattle.rs_dump.proofs.Stops.{passed_on}
use Rattle.rs_dump.proofs.alignments.write_alignment.Goals as goal

pub returns-in_err-put_alignment : goal.returns-in_err-put_alignment
returns-in_err-put_alignment g c =
    let stop = c.in_err-put_alignment.field-0.0 in
    let stops = c.in_err-put_alignment.ensures.stops in
    passed_on c.from_residual.result stop _ _ c.from_residual.ensures.1 (
      stops.0,
      stops_fitting (c.args.name.now.bytes, c.args.alignment.now) stop (g.W.Write.contents c.args.output.now) (g.W.Write.contents c.put_alignment.new.output) stops.1 c.in_err-put_alignment.ensures.long,
    )
