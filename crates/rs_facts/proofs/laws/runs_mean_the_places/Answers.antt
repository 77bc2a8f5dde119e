use Rattle.rs_facts.proofs.RunMeaning.{runs-mean}
use Rattle.rs_facts.proofs.laws.runs_mean_the_places.Goals as goal

pub returns : goal.returns
returns c = λ kind places from to runs inside all. runs-mean kind from to places runs inside all
