-- All of its runs are visible there, and the cells of a tree ascend.
use Rattle.rs_versioned.proofs.RunsPrinted.{window_has_the_runs}
use Rattle.rs_versioned.proofs.run_laws.visible_events_are_the_runs_as_printed.Goals as goal

pub returns : goal.returns
returns c = window_has_the_runs
