use Rattle.rs_measure.proofs.FixedPoint.{says_one_number}
use Rattle.rs_measure.proofs.measure.text_says_one_measure.Goals as goal

pub returns : goal.returns
returns c = says_one_number 6 3
