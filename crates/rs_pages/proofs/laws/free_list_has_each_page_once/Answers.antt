-- The law, as it is proved of its definitions.
use Rattle.rs_pages.proofs.FreeLists.{free_list_has_each_page_once as law}
use Rattle.rs_pages.proofs.laws.free_list_has_each_page_once.Goals as goal

pub returns : goal.returns
returns c = law
