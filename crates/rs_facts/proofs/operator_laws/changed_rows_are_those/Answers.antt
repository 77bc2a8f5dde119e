use Rattle.rs_facts.proofs.OperatorRows.{changed-rows}
use Rattle.rs_facts.proofs.operator_laws.changed_rows_are_those.Goals as goal

pub returns : goal.returns
returns c = changed-rows
