-- The disk is served; or there is none.
use Rattle.rs_server.proofs.Openings.{serves_disk, serves_none}
use Rattle.rs_server.proofs.opened.serve_opened.Goals as goal

pub returns-in-Ok : goal.returns-in-Ok
returns-in-Ok g c =
    serves_disk g.D.Disk (g.R.Read.remaining c.args.input.now) (g.R.Read.remaining c.serve_disk.new.input) (g.W.Write.contents c.args.output.now)
    (g.W.Write.contents c.serve_disk.new.output) _ c.in-Ok.disk c.serve_disk.result c.failure_in.result c.in-Ok.is c.serve_disk.ensures c.failure_in.ensures

pub returns-in-Err : goal.returns-in-Err
returns-in-Err g c = serves_none g.D.Disk (g.R.Read.remaining c.args.input.now) (g.W.Write.contents c.args.output.now) _ c.in-Err.failure c.in-Err.is
