use Rattle.rs_machine.proofs.ReferentNames.{answered_named}
use Rattle.rs_machine.proofs.laws.referents_stay_named.Goals as goal

pub returns : goal.returns
returns c = answered_named c.command_of_a_line_is_sound.ensures
