use Rattle.rs_planning.proofs.RecordCounts.{records-are_runs}
use Rattle.rs_planning.proofs.laws.records_are_runs.Goals as goal

pub returns : goal.returns
returns c = records-are_runs
