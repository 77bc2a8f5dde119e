-- The law, as it is proved of its definitions.
use Rattle.rs_pager.proofs.OneMap.{file_is_one as law}
use Rattle.rs_pager.proofs.laws.disk_stands_for_one_map.Goals as goal

pub returns : goal.returns
returns c = law
