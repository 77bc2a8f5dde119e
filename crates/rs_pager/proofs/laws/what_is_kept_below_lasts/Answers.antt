-- The law, as it is proved of its definitions.
use Rattle.rs_pager.proofs.Lasting.{below_lasts as law}
use Rattle.rs_pager.proofs.laws.what_is_kept_below_lasts.Goals as goal

pub returns : goal.returns
returns g c = law g.D.Disk
