-- By induction on their number.
use Rattle.rs_records.proofs.RecordLists.{length-records}
use Rattle.rs_records.proofs.laws.records_are_so_many.Goals as goal

pub returns : goal.returns
returns c = length-records
