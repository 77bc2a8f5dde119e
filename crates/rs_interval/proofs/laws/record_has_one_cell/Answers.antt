use Rattle.rs_interval.proofs.EventLaws.{record_has_one}
use Rattle.rs_interval.proofs.laws.record_has_one_cell.Goals as goal

pub returns : goal.returns
returns c = record_has_one
