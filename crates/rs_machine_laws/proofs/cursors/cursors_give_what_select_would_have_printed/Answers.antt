use Rattle.rs_machine_laws.proofs.OpenCursors.{prints_front, prints_all}
use Rattle.rs_machine_laws.proofs.cursors.cursors_give_what_select_would_have_printed.Goals as goal

pub returns-clause-prefix : goal.returns-clause-prefix
returns-clause-prefix c = prints_front

pub returns-clause-all : goal.returns-clause-all
returns-clause-all c = prints_all
