use Rattle.std.proofs.Common.{rules}
use Rattle.rs_methods.proofs.locating.interpolated.Goals as goal

pub returns : goal.returns
returns c = search rules
