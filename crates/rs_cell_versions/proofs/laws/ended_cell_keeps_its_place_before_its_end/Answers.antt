-- The lemma says it.
use Rattle.rs_cell_versions.proofs.Lasting.{ended_in_place}
use Rattle.rs_cell_versions.proofs.laws.ended_cell_keeps_its_place_before_its_end.Goals as goal

pub returns : goal.returns
returns c = λ at version cell cells before below long lives up has wide once. ended_in_place at version cell cells before below long lives up has wide once
