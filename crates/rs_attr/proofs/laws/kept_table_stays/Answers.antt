-- Its events do, and each index.
use Rattle.rs_attr.proofs.Placing.{kept_table}
use Rattle.rs_attr.proofs.laws.kept_table_stays.Goals as goal

pub returns : goal.returns
returns c = kept_table
