use Rattle.rs_value.proofs.KeptRows.{row_is, keeps_row_in}
use Rattle.rs_value.proofs.kept.KeptRow.of_literals.Goals as goal

pub invariant_of-result : goal.invariant_of-result
invariant_of-result c = keeps_row_in _ _ c.in_ok-bytes.ensures

pub returns : goal.returns
returns c = row_is _ _ c.in_ok-bytes.ensures
