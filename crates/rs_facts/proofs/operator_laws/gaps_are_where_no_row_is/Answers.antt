use Rattle.rs_facts.proofs.Gapping.{gaps-rows}
use Rattle.rs_facts.proofs.operator_laws.gaps_are_where_no_row_is.Goals as goal

pub returns : goal.returns
returns c = gaps-rows
