-- The lemma says it.
use Rattle.rs_cell_versions.proofs.Seen.{ended_unseen}
use Rattle.rs_cell_versions.proofs.laws.ended_cell_is_not_seen_from_its_end_on.Goals as goal

pub returns : goal.returns
returns c = ended_unseen
