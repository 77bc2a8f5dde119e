use Rattle.std.proofs.Common.{◌++◌, refl, sym, ap, ◌∙◌}
use Rattle.rs_value.proofs.KeptRows.{keeps_both, keeps_is}
use Rattle.rs_value.proofs.kept_making.joined.Goals as goal

pub returns : goal.returns
returns c x y h g = keeps_is _ _ _ _
    (sym (c.in_ok-extend_from_slice-2.ensures.ok ∙ ap (λ l. l ++ c.args.right.now) (c.in_ok-extend_from_slice.ensures.ok ∙ ap (λ l. l ++ c.args.left.now) c.in_ok-bytes.ensures.items)))
    refl (keeps_both c.args.left.now c.args.right.now x y h g)
