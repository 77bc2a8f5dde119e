-- The rest is beside the part, as others are.
use Rattle.rs_page_owners.proofs.Moving.{moves_part}
use Rattle.rs_page_owners.proofs.laws.moving_a_part_moves_the_whole.Goals as goal

pub returns : goal.returns
returns c = moves_part
