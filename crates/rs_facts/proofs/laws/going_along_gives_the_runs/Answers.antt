use Rattle.rs_facts.proofs.RunsOf.{runs_of-runs}
use Rattle.rs_facts.proofs.laws.going_along_gives_the_runs.Goals as goal

pub returns : goal.returns
returns c = λ kind places from to inside. runs_of-runs kind from to places inside
