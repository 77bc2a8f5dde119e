use Rattle.rs_facts.proofs.OperatorRows.{overlaid-rows}
use Rattle.rs_facts.proofs.operator_laws.overlaid_rows_are_pairs.Goals as goal

pub returns : goal.returns
returns c = overlaid-rows
