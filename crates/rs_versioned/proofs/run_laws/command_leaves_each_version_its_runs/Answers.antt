-- By one change after another.
use Rattle.rs_versioned.proofs.RunsByVersion.{runs_after}
use Rattle.rs_versioned.proofs.run_laws.command_leaves_each_version_its_runs.Goals as goal

pub returns : goal.returns
returns c = runs_after
