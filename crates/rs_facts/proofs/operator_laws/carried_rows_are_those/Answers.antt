use Rattle.rs_facts.proofs.Carrying.{carried-rows}
use Rattle.rs_facts.proofs.operator_laws.carried_rows_are_those.Goals as goal

pub returns : goal.returns
returns c = carried-rows
