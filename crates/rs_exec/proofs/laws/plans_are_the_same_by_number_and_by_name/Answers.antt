use Rattle.rs_exec.proofs.Plans.{plans-same}
use Rattle.rs_exec.proofs.laws.plans_are_the_same_by_number_and_by_name.Goals as goal

pub returns : goal.returns
returns c = plans-same
