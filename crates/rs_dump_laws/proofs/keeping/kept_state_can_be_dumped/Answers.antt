use Rattle.rs_dump_laws.proofs.KeptStates.{kept_lawful, kept_pass}
use Rattle.rs_dump_laws.proofs.keeping.kept_state_can_be_dumped.Goals as goal

pub returns-clause-lawful : goal.returns-clause-lawful
returns-clause-lawful c = λ state keeping lawful is. kept_lawful state keeping lawful is

pub returns-clause-passes : goal.returns-clause-passes
returns-clause-passes c = λ state keeping lawful is. kept_pass state keeping lawful is
