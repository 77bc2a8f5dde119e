-- The index goes from the others.
use Rattle.rs_attr.proofs.Placing.{table_one, table_without}
use Rattle.rs_attr.proofs.laws.table_has_each_index.Goals as goal

pub returns-clause-others : goal.returns-clause-others
returns-clause-others c = table_without

pub returns-clause-one : goal.returns-clause-one
returns-clause-one c = table_one
