use Rattle.rs_value.proofs.KeptOrder.{kept_one_way}
use Rattle.rs_value.proofs.kept_laws.row_is_kept_one_way.Goals as goal

pub returns : goal.returns
returns c = kept_one_way
