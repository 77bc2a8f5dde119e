use Rattle.std.proofs.Common.{rules}
use Rattle.rs_disk.proofs.memory.MemoryDiskDisk.write.Goals as goal

pub returns-clause-written : goal.returns-clause-written
returns-clause-written c = search rules
