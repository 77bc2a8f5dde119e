use Rattle.rs_facts.proofs.OperatorRows.{sets-have_rows}
use Rattle.rs_facts.proofs.operator_laws.sets_have_their_rows.Goals as goal

pub returns : goal.returns
returns c = sets-have_rows
