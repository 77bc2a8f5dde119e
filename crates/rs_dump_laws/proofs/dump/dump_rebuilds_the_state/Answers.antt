use Rattle.rs_dump_laws.proofs.Rebuilding.{rebuilds}
use Rattle.rs_dump_laws.proofs.dump.dump_rebuilds_the_state.Goals as goal

pub returns : goal.returns
returns c = rebuilds
