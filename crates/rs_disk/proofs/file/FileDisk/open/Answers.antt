use Rattle.std.proofs.Common.{rules}
use Rattle.rs_disk.proofs.file.FileDisk.open.Goals as goal

pub returns-in-Err-clause-not_existing : goal.returns-in-Err-clause-not_existing
returns-in-Err-clause-not_existing g c = search rules
