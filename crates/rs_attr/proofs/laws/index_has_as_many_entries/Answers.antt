-- Each cell has one.
use Rattle.rs_attr.proofs.Checked.{index_as_many}
use Rattle.rs_attr.proofs.laws.index_has_as_many_entries.Goals as goal

pub returns : goal.returns
returns c = index_as_many
