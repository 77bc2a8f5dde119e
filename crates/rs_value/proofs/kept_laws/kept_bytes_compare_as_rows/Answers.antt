use Rattle.rs_value.proofs.KeptOrder.{kept_cmp}
use Rattle.rs_value.proofs.kept_laws.kept_bytes_compare_as_rows.Goals as goal

pub returns : goal.returns
returns c = kept_cmp
