-- The law, as it is proved of its definitions.
use Rattle.rs_pages.proofs.FreeLists.{free_list_is_one as law}
use Rattle.rs_pages.proofs.laws.free_list_is_one.Goals as goal

pub returns : goal.returns
returns c = law
