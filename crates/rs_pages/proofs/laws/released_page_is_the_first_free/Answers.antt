-- The law, as it is proved of its definitions.
use Rattle.rs_pages.proofs.FreeLists.{released_page_is_the_first_free as law}
use Rattle.rs_pages.proofs.laws.released_page_is_the_first_free.Goals as goal

pub returns : goal.returns
returns c = law
