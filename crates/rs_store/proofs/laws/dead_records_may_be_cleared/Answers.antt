use Rattle.rs_store.proofs.MayGo.{all_may_go}
use Rattle.rs_store.proofs.laws.dead_records_may_be_cleared.Goals as goal

pub returns : goal.returns
returns g c = all_may_go g.D.Disk
