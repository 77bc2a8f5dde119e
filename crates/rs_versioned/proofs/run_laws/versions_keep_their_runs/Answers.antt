-- Their spans stay, in another order at most.
use Rattle.rs_versioned.proofs.RunsByVersion.{runs_clear, runs_come, runs_end, runs_last, runs_none, runs_within}
use Rattle.rs_versioned.proofs.run_laws.versions_keep_their_runs.Goals as goal

pub returns-clause-none : goal.returns-clause-none
returns-clause-none c = runs_none

pub returns-clause-fewer : goal.returns-clause-fewer
returns-clause-fewer c = runs_within

pub returns-clause-come : goal.returns-clause-come
returns-clause-come c = runs_come

pub returns-clause-ended : goal.returns-clause-ended
returns-clause-ended c = runs_end

pub returns-clause-cleared : goal.returns-clause-cleared
returns-clause-cleared c = runs_clear

pub returns-clause-next : goal.returns-clause-next
returns-clause-next c = runs_last
