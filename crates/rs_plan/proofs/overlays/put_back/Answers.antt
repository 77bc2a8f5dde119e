use Rattle.std.proofs.Common.{◌++◌, ◌∷◌, [], sym, ◌∙◌}
use Rattle.rs_plan.specs.Operands.{place_among}
use Rattle.rs_plan.proofs.Walks.{mapped-range}
use Rattle.rs_plan.proofs.overlays.put_back.Goals as goal

pub loop-column-preserved : goal.loop-column-preserved
loop-column-preserved c =
    c.in_ok-push.ensures.items ∙ (λ i. c.loop-column.invariant i ++ c.place_among.ensures i ∷ [])
    ∙ sym (mapped-range (place_among c.args.columns.now) c.loop-column.column)
