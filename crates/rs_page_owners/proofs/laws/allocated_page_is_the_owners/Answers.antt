-- The page was the first free one, or lies past all.
use Rattle.rs_page_owners.proofs.Moving.{allocates-moves}
use Rattle.rs_page_owners.proofs.laws.allocated_page_is_the_owners.Goals as goal

pub returns : goal.returns
returns c = allocates-moves
