-- The law, as it is proved of its definitions.
use Rattle.rs_journal.proofs.Making.{one_map as law}
use Rattle.rs_journal.proofs.laws.image_gives_one_map.Goals as goal

pub returns : goal.returns
returns c = law
