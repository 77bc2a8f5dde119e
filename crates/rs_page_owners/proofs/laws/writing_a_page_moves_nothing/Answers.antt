-- No other owner has the page.
use Rattle.rs_page_owners.proofs.Moving.{replaces-moves}
use Rattle.rs_page_owners.proofs.laws.writing_a_page_moves_nothing.Goals as goal

pub returns : goal.returns
returns c = replaces-moves
