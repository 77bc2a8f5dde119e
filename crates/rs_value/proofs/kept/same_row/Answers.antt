use Rattle.std.proofs.Common.{refl, sym}
use Rattle.rs_value.proofs.KeptOrder.{kept_once, kept_one_way}
use Rattle.rs_value.proofs.KeptRows.{kept_now, keeps_is}
use Rattle.rs_value.proofs.kept.same_row.Goals as goal

pub returns : goal.returns
returns c =
    let left = kept_now _ _ _ c.as_slice.ensures c.left.view_is c.left.invariant in
    let right = kept_now _ _ _ c.as_slice-2.ensures c.right.view_is c.right.invariant in (
      (λ h. kept_once _ _ _ (keeps_is _ _ _ _ (c.same_bytes.ensures.0 h) refl left) right),
      (λ h. c.same_bytes.ensures.1 (kept_one_way _ _ _ left (keeps_is _ _ _ _ refl (sym h) right))),
    )
