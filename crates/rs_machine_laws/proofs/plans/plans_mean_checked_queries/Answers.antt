use Rattle.rs_machine_laws.proofs.NamedColumns.{plan-means, plan-formed}
use Rattle.rs_machine_laws.proofs.plans.plans_mean_checked_queries.Goals as goal

pub returns-clause-means : goal.returns-clause-means
returns-clause-means c = plan-means c.plans_mean_their_queries.ensures

pub returns-clause-well_formed : goal.returns-clause-well_formed
returns-clause-well_formed c = plan-formed c.plans_are_well_formed.ensures
