-- Its indexes are of the same columns.
use Rattle.rs_file.proofs.Slotted.{stays_of_item}
use Rattle.rs_file.proofs.laws.changed_table_stays_of_its_item.Goals as goal

pub returns : goal.returns
returns c = stays_of_item
