-- The law, as it is proved of its definitions.
use Rattle.rs_engine.proofs.Fronts.{call_keeps, call_leaves}
use Rattle.rs_engine.proofs.engine.laws.a_crash_leaves_a_state_that_was_kept.Goals as goal

pub returns-clause-leaves : goal.returns-clause-leaves
returns-clause-leaves g c = call_leaves g.D.Disk

pub returns-clause-keeps : goal.returns-clause-keeps
returns-clause-keeps g c = call_keeps g.D.Disk
