use Rattle.std.proofs.Common.{rules}
use Rattle.rs_refusal.proofs.refusal.Refusal.words.Goals as goal

pub returns-in_default : goal.returns-in_default
returns-in_default c = search rules
