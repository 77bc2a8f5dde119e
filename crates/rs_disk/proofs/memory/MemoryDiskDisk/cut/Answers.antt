use Rattle.std.proofs.Common.{rules}
use Rattle.rs_disk.proofs.memory.MemoryDiskDisk.cut.Goals as goal

pub returns-clause-cut : goal.returns-clause-cut
returns-clause-cut c = search rules
