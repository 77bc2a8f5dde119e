use Rattle.rs_machine_laws.proofs.Commands.{step-lawful}
use Rattle.rs_machine_laws.proofs.lawful.accepted_step_leaves_the_state_lawful.Goals as goal

pub returns : goal.returns
returns c = step-lawful
