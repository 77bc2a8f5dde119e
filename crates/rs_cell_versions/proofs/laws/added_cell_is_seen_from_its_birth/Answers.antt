-- The lemma says it.
use Rattle.rs_cell_versions.proofs.Seen.{added_seen}
use Rattle.rs_cell_versions.proofs.laws.added_cell_is_seen_from_its_birth.Goals as goal

pub returns : goal.returns
returns c = added_seen
