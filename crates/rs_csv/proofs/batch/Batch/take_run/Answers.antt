use Rattle.std.proofs.Common.{refl, take, arith}
use Rattle.std.proofs.lemmas.List.{length-take-le}
use Rattle.rs_csv.proofs.Runs.{run_taken}
use Rattle.rs_csv.proofs.batch.Batch.take_run.Goals as goal

pub returns-clause-runs : goal.returns-clause-runs
returns-clause-runs c = λ separator whole begun is.
    let run = take c.count_run-count.result c.args.bytes.now in
    let sized = length-take-le c.count_run-count.result c.args.bytes.now c.count_run-count.ensures.within in
    run_taken separator c.args.self.now (record c.args.self.now {
      text = c.extend_from_slice.new.self;
      place = c.after-self.result;
      length = c.saturating_add-length.result;
      lines = c.within-self.result;
    }) run _ _ c.in-Some.ensures.cases.0 refl c.in_ok-extend_from_slice.ensures.items refl refl (omega (arith, sized, c.saturating_add-length.ensures, c.if-length-gt-RECORD_BYTES.false, c.count_run-count.ensures.within)) c.after-self.ensures c.if-self.false
    (c.if-not-is_outside.ensures refl) c.count_run-count.ensures.run c.if-length-gt-RECORD_BYTES.false whole begun is
