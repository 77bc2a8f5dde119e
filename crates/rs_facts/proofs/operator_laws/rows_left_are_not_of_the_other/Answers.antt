use Rattle.rs_facts.proofs.RowSets.{contains-without}
use Rattle.rs_facts.proofs.operator_laws.rows_left_are_not_of_the_other.Goals as goal

pub returns : goal.returns
returns c = contains-without
