use Rattle.std.proofs.lemmas.Result.{err_from_is_err_and}
use Rattle.rs_protocol.proofs.Ending.{answers_input, stops_in_input}
use Rattle.rs_protocol.proofs.stream.answer.Goals as goal

pub returns-in_err-run-clause-fault : goal.returns-in_err-run-clause-fault
returns-in_err-run-clause-fault g c old is =
    let p = err_from_is_err_and c.from_residual.result c.from_residual.ensures.1 in
    let so = c.in_err-run.ensures.served old is in
    rw (p.1, p.2) (so.0, so.1, stops_in_input c.in_err-run.field-0.0 c.args.input.now c.run.new.reader.now _ _ old so.0 so.2)

pub returns-clause-answered : goal.returns-clause-answered
returns-clause-answered g c old is =
    let so = c.in_ok-run.ensures.served old is in
    (so.0, so.1, answers_input c.in_ok-run.field-0 c.args.input.now c.run.new.reader.now c.new-written.result.items c.run.new.writer.items old so.0 c.new-written.ensures.items so.2)
