use Rattle.rs_syntax.proofs.OneAnswer.{reads_same}
use Rattle.rs_syntax.proofs.laws.line_has_one_answer.Goals as goal

pub returns : goal.returns
returns c = λ line from a b p q. reads_same (record { measures = c.text_says_one_measure.ensures; parts = c.text_says_one_part.ensures }) line from p q
