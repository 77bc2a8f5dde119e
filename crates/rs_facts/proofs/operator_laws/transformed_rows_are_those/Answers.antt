use Rattle.rs_facts.proofs.Transforming.{transformed-rows}
use Rattle.rs_facts.proofs.operator_laws.transformed_rows_are_those.Goals as goal

pub returns : goal.returns
returns c = transformed-rows
