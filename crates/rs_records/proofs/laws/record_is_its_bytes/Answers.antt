-- By induction on its index.
use Rattle.rs_records.proofs.RecordLists.{records-at}
use Rattle.rs_records.proofs.laws.record_is_its_bytes.Goals as goal

pub returns : goal.returns
returns c = records-at
