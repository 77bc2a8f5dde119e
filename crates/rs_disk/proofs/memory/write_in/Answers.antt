use Rattle.std.proofs.Common.{arith}
use Rattle.std.proofs.lemmas.Grind.{common_steps}
use Rattle.rs_disk.proofs.memory.write_in.Goals as goal

pub returns-clause-others : goal.returns-clause-others
returns-clause-others c = grind (arith, common_steps)
