-- The same trees are there.
use Rattle.rs_attr.proofs.Roots.{same_roots_table}
use Rattle.rs_attr.proofs.laws.table_stays_with_the_same_roots.Goals as goal

pub returns : goal.returns
returns c = same_roots_table
