-- The lemmas say it.
use Rattle.rs_cell_versions.specs.Version.{IsDated}
use Rattle.rs_cell_versions.proofs.Dated.{all_cleared, all_with, dated_ended}
use Rattle.rs_cell_versions.proofs.laws.changed_cells_are_dated.Goals as goal

pub returns-clause-added : goal.returns-clause-added
returns-clause-added c = λ version. all_with (IsDated version)

pub returns-clause-ended : goal.returns-clause-ended
returns-clause-ended c = dated_ended

pub returns-clause-cleared : goal.returns-clause-cleared
returns-clause-cleared c = λ version. all_cleared (IsDated version)
