-- The law, as it is proved of its definitions.
use Rattle.rs_pages.proofs.FreeLists.{allocating_takes_the_first_free_page as law}
use Rattle.rs_pages.proofs.laws.allocating_takes_the_first_free_page.Goals as goal

pub returns : goal.returns
returns c = law
