-- The lemma says it.
use Rattle.rs_cell_versions.proofs.Dated.{dated_seen}
use Rattle.rs_cell_versions.proofs.laws.living_cells_are_seen_at_present.Goals as goal

pub returns : goal.returns
returns c = dated_seen
