use Rattle.std.proofs.Common.{rules}
use Rattle.rs_methods.proofs.locating.located_before.Goals as goal

pub returns-in-Some-2-clause-place : goal.returns-in-Some-2-clause-place
returns-in-Some-2-clause-place c = search rules
