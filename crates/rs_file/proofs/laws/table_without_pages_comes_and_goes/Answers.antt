-- The pages of all tables stay the same.
use Rattle.rs_file.proofs.Parts.{table_comes, table_goes}
use Rattle.rs_file.proofs.laws.table_without_pages_comes_and_goes.Goals as goal

pub returns-clause-comes : goal.returns-clause-comes
returns-clause-comes c = λ file accepted contents before after table are parts lies none. table_comes file accepted contents parts before after table are lies none

pub returns-clause-goes : goal.returns-clause-goes
returns-clause-goes c = λ file accepted contents before after table are parts none. table_goes file accepted contents parts before after table are none
