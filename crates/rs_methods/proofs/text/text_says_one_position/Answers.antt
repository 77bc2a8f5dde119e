use Rattle.rs_methods.proofs.SaidPosition.{says_one_position}
use Rattle.rs_methods.proofs.text.text_says_one_position.Goals as goal

pub returns : goal.returns
returns c = says_one_position c.text_says_one_measure.ensures c.text_says_one_part.ensures
