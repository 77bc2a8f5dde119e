-- Connections are served over the disk; or there is none.
use Rattle.rs_server.proofs.Openings.{serves_disk_at, serves_none_at}
use Rattle.rs_server.proofs.opened.serve_opened_at.Goals as goal

pub returns-in-Ok : goal.returns-in-Ok
returns-in-Ok g c =
    serves_disk_at g.D.Disk c.args.address c.args.connections (g.W.Write.contents c.args.output.now) (g.W.Write.contents c.serve_disk_at.new.output) _ c.in-Ok.disk
    c.serve_disk_at.result c.failure_in.result c.in-Ok.is c.serve_disk_at.ensures c.failure_in.ensures

pub returns-in-Err : goal.returns-in-Err
returns-in-Err g c = serves_none_at g.D.Disk c.args.address c.args.connections (g.W.Write.contents c.args.output.now) _ c.in-Err.failure c.in-Err.is
