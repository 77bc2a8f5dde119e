-- It may be written, or nothing is done.
use Rattle.std.proofs.lemmas.Result.{on_ok_weaker}
use Rattle.rs_dump.proofs.Rounds.{goes_nowhere}
use Rattle.rs_dump.proofs.views.write_one.Goals as goal

pub returns-then-not-may_be_written-clause-goes : goal.returns-then-not-may_be_written-clause-goes
returns-then-not-may_be_written-clause-goes g c = goes_nowhere c.args.defined.now c.args.sorted.now (g.W.Write.contents c.args.output.now)

pub returns-then-not-may_be_written-clause-lacks : goal.returns-then-not-may_be_written-clause-lacks
returns-then-not-may_be_written-clause-lacks g c = λ same are. c.may_be_written.ensures.lacks c.if-not-may_be_written.true are

pub returns-clause-lacks : goal.returns-clause-lacks
returns-clause-lacks g c = on_ok_weaker c.write_view.result (λ lacks same are missing. lacks same) c.write_view.ensures.lacks
