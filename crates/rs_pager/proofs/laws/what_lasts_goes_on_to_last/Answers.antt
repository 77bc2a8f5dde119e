-- The law, as it is proved of its definitions.
use Rattle.rs_pager.proofs.Lasting.{goes_on as law}
use Rattle.rs_pager.proofs.laws.what_lasts_goes_on_to_last.Goals as goal

pub returns : goal.returns
returns g c = law g.D.Disk
