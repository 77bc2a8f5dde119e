-- No bytes hold no records.
use Rattle.rs_records.proofs.RecordLists.{records_none}
use Rattle.rs_records.proofs.cells.Cells.new.Goals as goal

pub returns-clause-none : goal.returns-clause-none
returns-clause-none c = records_none c.args.width _
