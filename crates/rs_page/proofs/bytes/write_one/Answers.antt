-- The byte that was written.
use Rattle.std.proofs.Common.{arith}
use Rattle.std.proofs.lemmas.Grind.{common_steps}
use Rattle.rs_page.proofs.Numbers.{byte_at}
use Rattle.rs_page.proofs.bytes.write_one.Goals as goal

pub returns-clause-value : goal.returns-clause-value
returns-clause-value c = rw byte_at (grind (arith, common_steps))
