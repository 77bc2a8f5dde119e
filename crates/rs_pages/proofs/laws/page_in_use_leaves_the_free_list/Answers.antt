-- The law, as it is proved of its definitions.
use Rattle.rs_pages.proofs.FreeLists.{page_in_use_leaves_the_free_list as law}
use Rattle.rs_pages.proofs.laws.page_in_use_leaves_the_free_list.Goals as goal

pub returns : goal.returns
returns c = law
