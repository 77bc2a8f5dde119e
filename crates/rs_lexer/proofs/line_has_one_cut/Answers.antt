use Rattle.rs_lexer.proofs.CutLaws.{cut_same}
use Rattle.rs_lexer.proofs.line_has_one_cut.Goals as goal

pub returns : goal.returns
returns c = λ line from a b p q. cut_same line p b q
