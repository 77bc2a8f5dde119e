use Rattle.std.proofs.Common.{arith}
use Rattle.rs_answers.proofs.Marking.{ended-step}
use Rattle.rs_answers.proofs.resuming.ended_below.Goals as goal

pub loop-run-preserved : goal.loop-run-preserved
loop-run-preserved c = record {
  at = omega (arith, c.loop-run.invariant.at);
  ended = ended-step c.args.to c.loop-run.run-index c.args.runs.now c.run-item.result (omega (arith, c.loop-run-test.true)) c.run-item.is (omega (arith, c.if-run-to.false)) c.loop-run.invariant.ended;
}
