use Rattle.std.proofs.Common.{rules}
use Rattle.rs_methods.proofs.locating.on_route.Goals as goal

pub returns-else-start-number-clause-place : goal.returns-else-start-number-clause-place
returns-else-start-number-clause-place c = search rules
