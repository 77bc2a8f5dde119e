-- The entries are just those of the cells.
use Rattle.rs_attr.proofs.Checked.{index_of_as_many}
use Rattle.rs_attr.proofs.laws.as_many_entries_are_the_index.Goals as goal

pub returns : goal.returns
returns c = index_of_as_many
