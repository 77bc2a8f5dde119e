-- What a file that was loaded is.
use Rattle.rs_file_parts.proofs.Ready.{loaded_committed, loaded_order, loaded_ready}
use Rattle.rs_file_parts.proofs.laws.loaded_file_can_be_changed.Goals as goal

pub returns-clause-ready : goal.returns-clause-ready
returns-clause-ready c = loaded_ready

pub returns-clause-committed : goal.returns-clause-committed
returns-clause-committed c = loaded_committed

pub returns-clause-order : goal.returns-clause-order
returns-clause-order c = loaded_order
