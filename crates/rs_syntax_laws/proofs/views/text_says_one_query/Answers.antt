use Rattle.rs_syntax_laws.proofs.Selected.{one_query}
use Rattle.rs_syntax_laws.proofs.views.text_says_one_query.Goals as goal

pub returns : goal.returns
returns c = one_query c.line_has_one_answer.ensures
