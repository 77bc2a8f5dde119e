use Rattle.rs_value.proofs.KeptRows.{row_is, keeps_row_in, kept_now}
use Rattle.rs_value.proofs.kept.KeptRow.chosen.Goals as goal

pub invariant_of-result : goal.invariant_of-result
invariant_of-result c = keeps_row_in _ _ (c.in_ok-bytes.ensures c.args.self.now (kept_now _ _ _ c.as_slice.ensures c.self.view_is c.self.invariant))

pub returns : goal.returns
returns c = row_is _ _ (c.in_ok-bytes.ensures c.args.self.now (kept_now _ _ _ c.as_slice.ensures c.self.view_is c.self.invariant))
