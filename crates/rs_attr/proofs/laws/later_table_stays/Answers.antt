-- Its cells are the same.
use Rattle.rs_attr.proofs.Placing.{later_table}
use Rattle.rs_attr.proofs.laws.later_table_stays.Goals as goal

pub returns : goal.returns
returns c = later_table
