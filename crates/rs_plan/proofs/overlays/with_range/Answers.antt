use Rattle.std.proofs.Common.{◌+◌, ◌-◌, ◌^◌, ◌++◌, ◌∷◌, [], min, sym, ap, ◌∙◌, append_assoc}
use Rattle.rs_plan.specs.Operands.{range_from}
use Rattle.rs_plan.proofs.Walks.{mapped-range}
use Rattle.rs_plan.proofs.overlays.with_range.Goals as goal

pub loop-place-preserved : goal.loop-place-preserved
loop-place-preserved c =
    c.in_ok-push.ensures.items ∙ (λ i. c.loop-place.invariant i ++ c.saturating_add.ensures i ∷ [])
    ∙ append_assoc c.args.columns.items (range_from c.args.first c.loop-place.place) _
    ∙ ap (λ l. c.args.columns.items ++ l) (sym (mapped-range (λ place. min (c.args.first + place) (2 ^ 8 - 1)) c.loop-place.place))
