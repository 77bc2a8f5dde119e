use Rattle.rs_facts.proofs.RunLaws.{runs-unique}
use Rattle.rs_facts.proofs.laws.runs_are_one_list.Goals as goal

pub returns : goal.returns
returns c = runs-unique
