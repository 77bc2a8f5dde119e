-- The names and births of its routes are those of the file.
use Rattle.rs_store.proofs.Visible.{are_at}
use Rattle.rs_store.proofs.store.Store.routes_born_by_are_seen.Goals as goal

pub returns : goal.returns
returns g c = λ oldest state stands. are_at g.D.Disk oldest c.args.self.now state stands c.args.version
