use Rattle.std.proofs.Common.{◌∙◌}
use Rattle.rs_value.proofs.KeptOrder.{kept_cmp}
use Rattle.rs_value.proofs.KeptRows.{kept_now}
use Rattle.rs_value.proofs.kept.compare_rows.Goals as goal

pub returns : goal.returns
returns c = c.compare_bytes.ensures
    ∙ kept_cmp _ _ _ _ (kept_now _ _ _ c.as_slice.ensures c.left.view_is c.left.invariant) (kept_now _ _ _ c.as_slice-2.ensures c.right.view_is c.right.invariant)
