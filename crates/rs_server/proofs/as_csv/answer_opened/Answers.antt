-- The lines are answered over the disk; or there is none.
use Rattle.rs_server.proofs.Answering.{answers_disk, answers_none}
use Rattle.rs_server.proofs.as_csv.answer_opened.Goals as goal

pub returns-in-Ok-clause-answers : goal.returns-in-Ok-clause-answers
returns-in-Ok-clause-answers g c =
    answers_disk g.D.Disk _ c.in-Ok.disk c.answer_disk-outcome.result.0 c.answer_disk-outcome.result.1 c.failure_in.result (g.R.Read.remaining c.args.input.now) (g.W.Write.contents c.args.output.now)
    (g.W.Write.contents c.answer_disk-outcome.new.output) c.in-Ok.is c.answer_disk-outcome.ensures.answers c.failure_in.ensures

pub returns-in-Err-clause-answers : goal.returns-in-Err-clause-answers
returns-in-Err-clause-answers g c = answers_none g.D.Disk _ c.in-Err.failure (g.R.Read.remaining c.args.input.now) (g.W.Write.contents c.args.output.now) c.in-Err.is
