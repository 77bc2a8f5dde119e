use Rattle.rs_machine_laws.proofs.Runs.{rows-lie}
use Rattle.rs_machine_laws.proofs.printed.rows_lie_on_routes.Goals as goal

pub returns : goal.returns
returns c = rows-lie
