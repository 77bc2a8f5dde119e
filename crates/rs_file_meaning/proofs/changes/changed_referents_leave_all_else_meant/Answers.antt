use Rattle.rs_file_meaning.proofs.Changed.{meant_referents}
use Rattle.rs_file_meaning.proofs.changes.changed_referents_leave_all_else_meant.Goals as goal

pub returns : goal.returns
returns c = meant_referents
