use Rattle.rs_value.proofs.EncodingOrder.{row_wide}
use Rattle.rs_value.proofs.encoding_laws.rows_have_one_width.Goals as goal

pub returns : goal.returns
returns c = row_wide
