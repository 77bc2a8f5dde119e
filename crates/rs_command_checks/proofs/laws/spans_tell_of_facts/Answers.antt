use Rattle.rs_command_checks.proofs.SpansOnRoutes.{tells_none, tells_some}
use Rattle.rs_command_checks.proofs.laws.spans_tell_of_facts.Goals as goal

pub returns-clause-none : goal.returns-clause-none
returns-clause-none c = tells_none

pub returns-clause-some : goal.returns-clause-some
returns-clause-some c = tells_some
