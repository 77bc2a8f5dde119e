use Rattle.rs_measure.proofs.PartText.{says_part_text}
use Rattle.rs_measure.proofs.part.printed_part_is_read_back.Goals as goal

pub returns : goal.returns
returns c = says_part_text
