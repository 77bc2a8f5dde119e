-- The order of bytes is transitive.
use Rattle.rs_records.proofs.Orders.{is_below-trans}
use Rattle.rs_records.proofs.laws.below_goes_on.Goals as goal

pub returns : goal.returns
returns c = is_below-trans
