use Rattle.rs_syntax_laws.proofs.ViewTexts.{view_says}
use Rattle.rs_syntax_laws.proofs.views.text_of_a_view_says_its_query.Goals as goal

pub returns : goal.returns
returns c = view_says
