-- The disk is dumped; or there is none.
use Rattle.rs_server.proofs.Openings.{dumps_disk, dumps_none}
use Rattle.rs_server.proofs.opened.dump_opened.Goals as goal

pub returns-in-Ok-clause-dumps : goal.returns-in-Ok-clause-dumps
returns-in-Ok-clause-dumps g c =
    let ended = c.dump_on.ensures in
    dumps_disk g.D.Disk (g.W.Write.contents c.args.output.now) (g.W.Write.contents c.dump_on.new.output) (g.E.Write.contents c.args.errors.now)
    (g.E.Write.contents c.dump_on.new.errors) _ _ _ c.in-Ok.disk c.dump_on.result c.in-Ok.is (record { is = ended.status; dumps = ended.dumps; fails = ended.fails })

pub returns-in-Err-clause-dumps : goal.returns-in-Err-clause-dumps
returns-in-Err-clause-dumps g c =
    let said = c.report_failure.ensures in
    dumps_none g.D.Disk (g.W.Write.contents c.args.output.now) (g.E.Write.contents c.args.errors.now) (g.E.Write.contents c.report_failure.new.errors) _ _ _ c.in-Err.failure
    c.report_failure.result c.in-Err.is said.status said.said
