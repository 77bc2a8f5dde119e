use Rattle.std.proofs.Common.{◌-◌, ◌^◌, map, flat_map, min, subst, ap, ◌∙◌, rules}
use Rattle.std.specs.List.{range_with_len}
use Rattle.std.specs.List.Sorted.{IsPermutation, IsStableByKey}
use Rattle.std.specs.Ordering.{nat_cmp}
use Rattle.std.proofs.lemmas.List.Sorted.{answers_always}
use Rattle.rs_plan.specs.declared.overlays.Written.{Written}
use Rattle.rs_plan.specs.Operands.{weights, widths, range_of, place_among}
use Rattle.rs_plan.proofs.OverlayLaws.{overlay-made}
use Rattle.rs_plan.proofs.overlays.overlay.Goals as goal

pub returns : goal.returns
returns c =
    let key = λ (one : Written). one.operand.weight in
    let sorted = c.sort_by_key.new.self.items in
    overlay-made c.args.operands.items sorted
    (subst (λ l. IsPermutation l sorted) c.in_ok-written.ensures c.in_ok-sort_by_key.ensures.permutation)
    (c.in_ok-sort_by_key.ensures.sorted key (answers_always _ _ _ (λ f a r q k. search rules)))
    (subst (λ l. IsStableByKey key nat_cmp l sorted) c.in_ok-written.ensures (c.in_ok-sort_by_key.ensures.stable key (answers_always _ _ _ (λ f a r q k. search rules))))
    c.total_weight-weight.result c.total_width-width.result
    (c.total_weight-weight.ensures ∙ ap (λ l. min (weights l) (2 ^ 128 - 1)) c.as_slice.ensures.value)
    (c.total_width-width.ensures ∙ ap (λ l. min (widths l) (2 ^ 8 - 1)) c.as_slice-2.ensures.value)
    c.in_ok-back.back
    (c.in_ok-back.ensures ∙ ap (λ l. map (place_among l) (range_with_len 0 c.total_width-width.result)) (c.as_slice-4.ensures.value ∙ c.in_ok-columns.ensures ∙ ap (flat_map range_of) c.as_slice-3.ensures.value))
    c.in_ok-plans.plans c.in_ok-plans.ensures
