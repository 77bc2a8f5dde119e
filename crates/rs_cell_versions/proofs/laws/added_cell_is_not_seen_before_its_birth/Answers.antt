-- The lemma says it.
use Rattle.rs_cell_versions.proofs.Seen.{added_unseen}
use Rattle.rs_cell_versions.proofs.laws.added_cell_is_not_seen_before_its_birth.Goals as goal

pub returns : goal.returns
returns c = added_unseen
