-- The law, as it is proved of its definitions.
use Rattle.rs_page_copies.proofs.Copying.{listed_make as law}
use Rattle.rs_page_copies.proofs.laws.listed_pages_make_a_checkpoint.Goals as goal

pub returns : goal.returns
returns c = λ changes pages is_header_changed checkpoint kept lists inside most. law changes pages is_header_changed checkpoint lists inside most kept
