use Rattle.rs_planning.proofs.Meaning.{plan-well-formed}
use Rattle.rs_planning.proofs.laws.plans_are_well_formed.Goals as goal

pub returns : goal.returns
returns c = plan-well-formed
