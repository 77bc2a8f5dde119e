use Rattle.std.proofs.Common.{arith, rules}
use Rattle.std.proofs.lemmas.Grind.{common_steps}
use Rattle.rs_methods.proofs.expressing.part_at.Goals as goal

pub returns-clause-least : goal.returns-clause-least
returns-clause-least c = search rules

pub returns-clause-read_back : goal.returns-clause-read_back
returns-clause-read_back c = grind (arith, common_steps)
