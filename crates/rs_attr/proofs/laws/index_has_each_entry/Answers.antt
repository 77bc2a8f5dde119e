-- Each cell has its own.
use Rattle.rs_attr.proofs.Checked.{index_entries}
use Rattle.rs_attr.proofs.laws.index_has_each_entry.Goals as goal

pub returns : goal.returns
returns c = index_entries
