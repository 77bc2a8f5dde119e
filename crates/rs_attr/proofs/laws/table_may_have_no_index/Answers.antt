-- There are no entries.
use Rattle.rs_attr.proofs.Placing.{table_alone}
use Rattle.rs_attr.proofs.laws.table_may_have_no_index.Goals as goal

pub returns : goal.returns
returns c = table_alone
