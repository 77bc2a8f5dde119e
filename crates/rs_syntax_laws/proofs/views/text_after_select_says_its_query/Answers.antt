use Rattle.rs_syntax_laws.proofs.Selected.{selected_says}
use Rattle.rs_syntax_laws.proofs.views.text_after_select_says_its_query.Goals as goal

pub returns : goal.returns
returns c = selected_says
