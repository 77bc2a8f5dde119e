use Rattle.rs_server.proofs.Saying.{said_from_puts}
use Rattle.rs_server.proofs.report.report_failure.Goals as goal

pub returns-clause-said : goal.returns-clause-said
returns-clause-said g c = said_from_puts _ c.say_failure.result _ _ _ c.say_failure.ensures
