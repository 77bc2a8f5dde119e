-- The lemma says it.
use Rattle.rs_cell_versions.proofs.Seen.{cleared_seen}
use Rattle.rs_cell_versions.proofs.laws.clearing_takes_nothing_that_is_seen.Goals as goal

pub returns : goal.returns
returns c = cleared_seen
