use Rattle.rs_planning.proofs.Meaning.{plan-means}
use Rattle.rs_planning.proofs.laws.plans_mean_their_queries.Goals as goal

pub returns : goal.returns
returns c = plan-means
