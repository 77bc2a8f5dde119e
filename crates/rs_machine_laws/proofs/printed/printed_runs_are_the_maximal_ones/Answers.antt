use Rattle.rs_machine_laws.proofs.Runs.{printed-maximal}
use Rattle.rs_machine_laws.proofs.printed.printed_runs_are_the_maximal_ones.Goals as goal

pub returns : goal.returns
returns c = printed-maximal c.going_along_gives_the_runs.ensures
