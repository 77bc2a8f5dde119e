-- The law, as it is proved of its definitions.
use Rattle.rs_engine.proofs.Fronts.{come_to, leave_a_front}
use Rattle.rs_engine.proofs.engine.laws.steps_leave_a_front.Goals as goal

pub returns-clause-comes : goal.returns-clause-comes
returns-clause-comes g c = come_to g.D.Disk

pub returns-clause-leaves : goal.returns-clause-leaves
returns-clause-leaves g c = leave_a_front g.D.Disk
