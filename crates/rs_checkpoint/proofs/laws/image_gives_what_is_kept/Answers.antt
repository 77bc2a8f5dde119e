-- The law, as it is proved of its definitions.
use Rattle.rs_checkpoint.proofs.Kept.{image_gives, quiet_image}
use Rattle.rs_checkpoint.proofs.laws.image_gives_what_is_kept.Goals as goal

pub returns-clause-fresh : goal.returns-clause-fresh
returns-clause-fresh g c = quiet_image g.D.Disk

pub returns-clause-under_way : goal.returns-clause-under_way
returns-clause-under_way g c = image_gives g.D.Disk
