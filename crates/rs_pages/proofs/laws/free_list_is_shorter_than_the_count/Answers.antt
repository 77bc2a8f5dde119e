-- The law, as it is proved of its definitions.
use Rattle.rs_pages.proofs.FreeLists.{free_list_is_shorter_than_the_count as law}
use Rattle.rs_pages.proofs.laws.free_list_is_shorter_than_the_count.Goals as goal

pub returns : goal.returns
returns c = law
