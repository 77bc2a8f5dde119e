-- The free list is the same too.
use Rattle.rs_page_owners.proofs.Moving.{same_pages-moves}
use Rattle.rs_page_owners.proofs.laws.same_pages_move_nothing.Goals as goal

pub returns : goal.returns
returns c = same_pages-moves
