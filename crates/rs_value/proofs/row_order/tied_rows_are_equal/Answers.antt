use Rattle.rs_value.specs.RowOrder.{row_antisymmetric}
use Rattle.rs_value.proofs.row_order.tied_rows_are_equal.Goals as goal

pub returns : goal.returns
returns c = row_antisymmetric
