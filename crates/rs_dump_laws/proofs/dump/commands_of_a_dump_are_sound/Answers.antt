use Rattle.rs_dump_laws.proofs.Soundness.{commands_sound}
use Rattle.rs_dump_laws.proofs.dump.commands_of_a_dump_are_sound.Goals as goal

pub returns : goal.returns
returns c = commands_sound
