use Rattle.std.proofs.Common.{◌≡◌, [], ◌-◌}
use Rattle.rs_machine.specs.Served.{Machine}
use Rattle.rs_protocol.specs.Inner.{IsUnderWay}
use Rattle.rs_protocol.specs.declared.stream.TheConstants.{READS}
use Rattle.rs_protocol.proofs.stream.serve_pieces.Given as goal

abbrev pub invariant-loop-reads : goal.invariant-loop-reads
invariant-loop-reads g l = (l.pending.items ≡ []) × g.E.Serve.becomes l.fn.engine l.engine × ((old : Machine) → g.E.Serve.is l.fn.engine old → (now : Machine) × g.E.Serve.is l.engine now
    × IsUnderWay l.kept.items old now (g.R.Read.remaining l.fn.reader) (g.R.Read.remaining l.reader)
    (g.W.Write.contents l.fn.writer) (g.W.Write.contents l.writer))

abbrev pub decreases-loop-reads : goal.decreases-loop-reads
decreases-loop-reads g l = READS - l.reads.made
