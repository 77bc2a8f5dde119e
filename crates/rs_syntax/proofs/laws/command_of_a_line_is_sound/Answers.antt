use Rattle.rs_syntax.proofs.EveryLine.{reads_sound}
use Rattle.rs_syntax.proofs.laws.command_of_a_line_is_sound.Goals as goal

pub returns : goal.returns
returns c = reads_sound (record { measures = c.text_says_one_measure.ensures; parts = c.text_says_one_part.ensures })
