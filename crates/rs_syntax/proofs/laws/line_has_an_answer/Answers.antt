use Rattle.rs_syntax.proofs.EveryLine.{reads_some}
use Rattle.rs_syntax.proofs.laws.line_has_an_answer.Goals as goal

pub returns : goal.returns
returns c = λ line from. let some = reads_some line from in (some.0, some.1)
