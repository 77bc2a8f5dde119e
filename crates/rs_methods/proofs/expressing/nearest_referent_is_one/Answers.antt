use Rattle.rs_methods.proofs.Nearest.{nearest_is_one}
use Rattle.rs_methods.proofs.expressing.nearest_referent_is_one.Goals as goal

pub returns : goal.returns
returns c = nearest_is_one
