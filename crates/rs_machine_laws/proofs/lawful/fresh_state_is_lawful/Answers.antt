use Rattle.rs_machine_laws.proofs.Lines.{fresh-lawful}
use Rattle.rs_machine_laws.proofs.lawful.fresh_state_is_lawful.Goals as goal

pub returns : goal.returns
returns c = fresh-lawful
