-- The disk is made; or there is none.
use Rattle.rs_server.proofs.Openings.{creates_disk, creates_none}
use Rattle.rs_server.proofs.opened.create_opened.Goals as goal

pub returns-in-Ok : goal.returns-in-Ok
returns-in-Ok g c = creates_disk g.D.Disk _ c.in-Ok.disk c.create_on.result c.failure_in.result c.in-Ok.is c.create_on.ensures c.failure_in.ensures

pub returns-in-Err : goal.returns-in-Err
returns-in-Err g c = creates_none g.D.Disk _ c.in-Err.failure c.in-Err.is
