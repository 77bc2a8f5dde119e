use Rattle.rs_planning.proofs.LeastIndex.{least-taken, none-taken}
use Rattle.rs_planning.proofs.laws.the_least_index_is_taken.Goals as goal

pub returns-clause-least : goal.returns-clause-least
returns-clause-least c = least-taken

pub returns-clause-none : goal.returns-clause-none
returns-clause-none c = none-taken
