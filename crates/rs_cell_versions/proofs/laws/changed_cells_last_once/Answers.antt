-- The lemmas say it.
use Rattle.rs_cell_versions.proofs.Lasting.{once_cleared, once_ended, once_with}
use Rattle.rs_cell_versions.proofs.laws.changed_cells_last_once.Goals as goal

pub returns-clause-added : goal.returns-clause-added
returns-clause-added c = once_with

pub returns-clause-ended : goal.returns-clause-ended
returns-clause-ended c = once_ended

pub returns-clause-cleared : goal.returns-clause-cleared
returns-clause-cleared c = once_cleared
