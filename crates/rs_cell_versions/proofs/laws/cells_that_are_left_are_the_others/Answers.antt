-- One after another goes.
use Rattle.rs_cell_versions.proofs.Left.{left_are_others, left_ascend}
use Rattle.rs_cell_versions.proofs.laws.cells_that_are_left_are_the_others.Goals as goal

pub returns-clause-left : goal.returns-clause-left
returns-clause-left c = left_are_others

pub returns-clause-ascend : goal.returns-clause-ascend
returns-clause-ascend c = left_ascend
