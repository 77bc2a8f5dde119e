-- The lemma says it.
use Rattle.rs_cell_versions.proofs.Seen.{ended_seen}
use Rattle.rs_cell_versions.proofs.laws.ended_cell_is_seen_before_its_end.Goals as goal

pub returns : goal.returns
returns c = λ at version cell cells before below long lives up has none. ended_seen at version cell cells before below long lives up has none
