use Rattle.rs_file_meaning.proofs.Next.{referents_next, spans_next, state_next, world_next}
use Rattle.rs_file_meaning.proofs.versions.next_version_begins_as_the_present_one.Goals as goal

pub returns-clause-spans : goal.returns-clause-spans
returns-clause-spans c = spans_next

pub returns-clause-referents : goal.returns-clause-referents
returns-clause-referents c = referents_next

pub returns-clause-world : goal.returns-clause-world
returns-clause-world c = world_next

pub returns-clause-state : goal.returns-clause-state
returns-clause-state c = state_next
