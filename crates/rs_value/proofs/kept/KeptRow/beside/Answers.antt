use Rattle.rs_value.proofs.KeptRows.{row_is, keeps_row_in, kept_now}
use Rattle.rs_value.proofs.kept.KeptRow.beside.Goals as goal

pub invariant_of-result : goal.invariant_of-result
invariant_of-result c = keeps_row_in _ _ (c.in_ok-bytes.ensures c.args.self.now c.args.other.now (kept_now _ _ _ c.as_slice.ensures c.self.view_is c.self.invariant) (kept_now _ _ _ c.as_slice-2.ensures c.other.view_is c.other.invariant))

pub returns : goal.returns
returns c = row_is _ _ (c.in_ok-bytes.ensures c.args.self.now c.args.other.now (kept_now _ _ _ c.as_slice.ensures c.self.view_is c.self.invariant) (kept_now _ _ _ c.as_slice-2.ensures c.other.view_is c.other.invariant))
