use Rattle.std.proofs.Common.{rules}
use Rattle.rs_methods.specs.Position.{nearness_cmp}
use Rattle.rs_methods.proofs.referents.compare_nearness.Goals as goal

pub returns : goal.returns
unfolding nearness_cmp
returns c = search rules
