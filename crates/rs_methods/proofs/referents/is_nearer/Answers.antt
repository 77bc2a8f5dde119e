use Rattle.std.proofs.Common.{rules}
use Rattle.rs_methods.proofs.referents.is_nearer.Goals as goal

pub returns-else-thousandths : goal.returns-else-thousandths
returns-else-thousandths c = search rules
