use Rattle.rs_facts.proofs.RowSets.{contains-merged}
use Rattle.rs_facts.proofs.operator_laws.merged_rows_are_of_either.Goals as goal

pub returns : goal.returns
returns c = contains-merged
