use Rattle.rs_server.proofs.Ending.{ends_by, quiet_as}
use Rattle.rs_server.proofs.service.program.Goals as goal

pub returns-clause-ends : goal.returns-clause-ends
returns-clause-ends g c = ends_by g.D.Disk (g.P.FileSystem.gives c.args.rt.now) _ _ _ _ _ _ _ _ _ c.read_words-asked.result c.read_words-asked.ensures.fails c.read_words-asked.ensures.asks c.do_as_asked.ensures.ends

pub returns-clause-quiet : goal.returns-clause-quiet
returns-clause-quiet g c = λ is. quiet_as _ c.read_words-asked.result _ _ c.read_words-asked.ensures.asks (c.do_as_asked.ensures.quiet is)
