use Rattle.rs_syntax_laws.proofs.ViewTexts.{view_cut, view_ends}
use Rattle.rs_syntax_laws.proofs.views.text_of_a_view_has_its_tokens.Goals as goal

pub returns-clause-cut : goal.returns-clause-cut
returns-clause-cut c = view_cut

pub returns-clause-ends : goal.returns-clause-ends
returns-clause-ends c = view_ends
