use Rattle.rs_facts.proofs.KeptRuns.{kept-runs}
use Rattle.rs_facts.proofs.laws.kept_spans_are_the_runs.Goals as goal

pub returns : goal.returns
returns c = kept-runs
