use Rattle.std.proofs.Common.{arith}
use Rattle.rs_csv.proofs.Runs.{run_from}
use Rattle.rs_csv.proofs.quoting.count_run.Goals as goal

pub returns-in-Some-clause-run : goal.returns-in-Some-clause-run
returns-in-Some-clause-run c =
    let first = c.in-Some.ensures.0 in
    run_from c.args.bytes.now c.in-Some.place (omega (arith, first.high)) (λ k below. first.before k (omega arith) below)

pub returns-in-None-clause-run : goal.returns-in-None-clause-run
returns-in-None-clause-run c = run_from c.args.bytes.now _ (omega arith) (λ k below. c.in-None.ensures k (omega arith) below)
