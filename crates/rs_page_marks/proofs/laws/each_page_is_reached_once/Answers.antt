use Rattle.rs_page_marks.proofs.Marking.{each_once}
use Rattle.rs_page_marks.proofs.laws.each_page_is_reached_once.Goals as goal

pub returns : goal.returns
returns c = each_once
