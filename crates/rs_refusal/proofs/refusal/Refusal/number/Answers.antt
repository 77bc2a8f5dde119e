use Rattle.std.proofs.Common.{rules}
use Rattle.rs_refusal.proofs.refusal.Refusal.number.Goals as goal

pub returns-in-Disk : goal.returns-in-Disk
returns-in-Disk c = search rules
