-- The spans on other routes stay, in another order at most.
use Rattle.rs_versioned.proofs.RunsByVersion.{beside_begin, beside_clear, beside_come, beside_done, beside_end}
use Rattle.rs_versioned.proofs.run_laws.command_keeps_the_runs_beside_its_route.Goals as goal

pub returns-clause-begin : goal.returns-clause-begin
returns-clause-begin c = beside_begin

pub returns-clause-come : goal.returns-clause-come
returns-clause-come c = beside_come

pub returns-clause-ended : goal.returns-clause-ended
returns-clause-ended c = beside_end

pub returns-clause-cleared : goal.returns-clause-cleared
returns-clause-cleared c = beside_clear

pub returns-clause-done : goal.returns-clause-done
returns-clause-done c = beside_done
