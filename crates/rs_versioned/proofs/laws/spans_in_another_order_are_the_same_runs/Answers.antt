-- Spans mean a set.
use Rattle.rs_versioned.proofs.SameRuns.{runs_shuffled}
use Rattle.rs_versioned.proofs.laws.spans_in_another_order_are_the_same_runs.Goals as goal

pub returns : goal.returns
returns c = runs_shuffled
