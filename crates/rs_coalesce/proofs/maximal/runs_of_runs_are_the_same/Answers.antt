use Rattle.rs_facts.proofs.RunMeaning.{runs-again}
use Rattle.rs_coalesce.proofs.maximal.runs_of_runs_are_the_same.Goals as goal

pub returns : goal.returns
returns c = runs-again
