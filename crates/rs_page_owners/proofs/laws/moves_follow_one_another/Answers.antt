-- The others' pages stay in each.
use Rattle.rs_page_owners.proofs.Moving.{moves_trans}
use Rattle.rs_page_owners.proofs.laws.moves_follow_one_another.Goals as goal

pub returns : goal.returns
returns c = moves_trans
