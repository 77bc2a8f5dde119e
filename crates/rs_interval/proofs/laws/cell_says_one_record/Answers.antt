use Rattle.rs_interval.proofs.EventLaws.{cell_says_one}
use Rattle.rs_interval.proofs.laws.cell_says_one_record.Goals as goal

pub returns : goal.returns
returns c = cell_says_one
