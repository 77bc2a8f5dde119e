use Rattle.rs_value.specs.RowOrder.{row_total}
use Rattle.rs_value.proofs.row_order.row_order_is_total.Goals as goal

pub returns : goal.returns
returns c = row_total
