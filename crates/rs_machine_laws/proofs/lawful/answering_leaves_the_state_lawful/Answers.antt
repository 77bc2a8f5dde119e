use Rattle.rs_machine_laws.proofs.Lines.{answered-lawful}
use Rattle.rs_machine_laws.proofs.lawful.answering_leaves_the_state_lawful.Goals as goal

pub returns : goal.returns
returns c = answered-lawful c.command_of_a_line_is_sound.ensures
