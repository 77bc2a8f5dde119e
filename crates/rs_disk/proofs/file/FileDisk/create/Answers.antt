use Rattle.std.proofs.Common.{rules}
use Rattle.rs_disk.proofs.file.FileDisk.create.Goals as goal

pub returns-in-Err-clause-not_missing : goal.returns-in-Err-clause-not_missing
returns-in-Err-clause-not_missing g c = search rules
