-- The law, as it is proved of its definitions.
use Rattle.rs_pages.proofs.FreeLists.{same_pages_have_one_free_list as law}
use Rattle.rs_pages.proofs.laws.same_pages_have_one_free_list.Goals as goal

pub returns : goal.returns
returns c = law
