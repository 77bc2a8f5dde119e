use Rattle.rs_methods.proofs.Nearest.{nearest_is_nearest}
use Rattle.rs_methods.proofs.expressing.nearest_referent_is_taken.Goals as goal

pub returns : goal.returns
returns c = nearest_is_nearest
