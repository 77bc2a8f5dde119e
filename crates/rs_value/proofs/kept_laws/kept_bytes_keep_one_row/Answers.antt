use Rattle.rs_value.proofs.KeptOrder.{kept_once}
use Rattle.rs_value.proofs.kept_laws.kept_bytes_keep_one_row.Goals as goal

pub returns : goal.returns
returns c = kept_once
