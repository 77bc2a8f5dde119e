use Rattle.std.proofs.Common.{rules}
use Rattle.rs_disk.proofs.memory.MemoryDiskDisk.pages.Goals as goal

pub returns : goal.returns
returns c = search rules
