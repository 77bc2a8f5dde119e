use Rattle.rs_value.proofs.EncodingOrder.{rows_cmp}
use Rattle.rs_value.proofs.encoding_laws.bytes_compare_as_rows.Goals as goal

pub returns : goal.returns
returns c = rows_cmp
