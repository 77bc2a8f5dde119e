use Rattle.rs_file_meaning.proofs.KeptLive.{sees_itself, sees_joined}
use Rattle.rs_file_meaning.proofs.SameWorld.{events_meant, facts_seen, names_seen, referents_meant, world_seen, worlds_seen}
use Rattle.rs_file_meaning.proofs.live.version_that_sees_the_same_has_the_same_world.Goals as goal

pub returns-clause-unchanged : goal.returns-clause-unchanged
returns-clause-unchanged c = sees_itself

pub returns-clause-joined : goal.returns-clause-joined
returns-clause-joined c = sees_joined

pub returns-clause-facts : goal.returns-clause-facts
returns-clause-facts c = λ version table route old now sees. facts_seen version old now sees table route

pub returns-clause-events : goal.returns-clause-events
returns-clause-events c = λ kind version table old now sees. events_meant version old now sees kind table

pub returns-clause-referents : goal.returns-clause-referents
returns-clause-referents c = referents_meant

pub returns-clause-names : goal.returns-clause-names
returns-clause-names c = λ version route old now sees. names_seen version old now sees route

pub returns-clause-world : goal.returns-clause-world
returns-clause-world c = world_seen

pub returns-clause-tables : goal.returns-clause-tables
returns-clause-tables c = worlds_seen
