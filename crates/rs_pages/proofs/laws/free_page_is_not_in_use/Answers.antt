-- The law, as it is proved of its definitions.
use Rattle.rs_pages.proofs.FreeLists.{free_page_is_not_in_use as law}
use Rattle.rs_pages.proofs.laws.free_page_is_not_in_use.Goals as goal

pub returns : goal.returns
returns c = law
