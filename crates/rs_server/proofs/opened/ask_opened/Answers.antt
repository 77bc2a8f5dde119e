-- The questions are asked of the disk; or there is none.
use Rattle.rs_server.proofs.Questions.{asks_disk, asks_none}
use Rattle.rs_server.proofs.opened.ask_opened.Goals as goal

pub returns-in-Ok-clause-asks : goal.returns-in-Ok-clause-asks
returns-in-Ok-clause-asks g c =
    asks_disk g.D.Disk _ (g.W.Write.contents c.args.output.now) (g.W.Write.contents c.ask_on.new.output) (g.E.Write.contents c.args.errors.now)
    (g.E.Write.contents c.ask_on.new.errors) _ c.in-Ok.disk c.ask_on.result c.in-Ok.is c.ask_on.ensures.asks

pub returns-in-Err-clause-asks : goal.returns-in-Err-clause-asks
returns-in-Err-clause-asks g c =
    let said = c.report_failure.ensures in
    asks_none g.D.Disk _ (g.W.Write.contents c.args.output.now) (g.E.Write.contents c.args.errors.now) (g.E.Write.contents c.report_failure.new.errors) _ c.in-Err.failure
    c.report_failure.result c.in-Err.is said.status said.said
