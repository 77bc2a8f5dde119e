use Rattle.rs_measure.proofs.PartText.{says_one_part}
use Rattle.rs_measure.proofs.part.text_says_one_part.Goals as goal

pub returns : goal.returns
returns c = says_one_part
