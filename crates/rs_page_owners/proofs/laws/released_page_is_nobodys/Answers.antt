-- The page is the first free one.
use Rattle.rs_page_owners.proofs.Moving.{releases-moves}
use Rattle.rs_page_owners.proofs.laws.released_page_is_nobodys.Goals as goal

pub returns : goal.returns
returns c = releases-moves
