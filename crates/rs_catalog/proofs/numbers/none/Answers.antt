use Rattle.std.proofs.Common.{refl}
use Rattle.rs_catalog.specs.Taken.{none_taken}
use Rattle.rs_catalog.proofs.numbers.none.Goals as goal

pub returns : goal.returns
unfolding none_taken
returns g c = refl
