use Rattle.rs_facts.proofs.OperatorRows.{dissolved-rows}
use Rattle.rs_facts.proofs.operator_laws.dissolved_rows_are_chosen.Goals as goal

pub returns : goal.returns
returns c = dissolved-rows
