use Rattle.rs_page_marks.proofs.Marking.{none_left}
use Rattle.rs_page_marks.proofs.laws.no_page_is_left.Goals as goal

pub returns : goal.returns
returns c = none_left
