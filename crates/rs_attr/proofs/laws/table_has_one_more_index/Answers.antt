-- The index comes to the others at its place.
use Rattle.rs_attr.proofs.Placing.{table_with}
use Rattle.rs_attr.proofs.laws.table_has_one_more_index.Goals as goal

pub returns : goal.returns
returns c = table_with
