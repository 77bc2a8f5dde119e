-- The law, as it is proved of its definitions.
use Rattle.rs_pager.proofs.Lasting.{settled as law}
use Rattle.rs_pager.proofs.laws.what_lasts_is_settled.Goals as goal

pub returns : goal.returns
returns g c = law g.D.Disk
