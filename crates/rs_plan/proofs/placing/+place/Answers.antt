use Rattle.std.proofs.Common.{◌≡◌, ◌++◌, map, flat_map, true, refl, rules, ap, subst, ◌∙◌}
use Rattle.std.proofs.lemmas.Result.{IfOk-weaker}
use Rattle.rs_facts.specs.ConditionView.{condition_of}
use Rattle.rs_checker.specs.CheckedView.{query_of, named_in}
use Rattle.rs_planning.specs.Conjuncts.{under_dissolve}
use Rattle.rs_planning.specs.Plan as plans
use Rattle.rs_planning.specs.Rule as rule
use Rattle.rs_checker.specs.CheckedView as checked
use Rattle.rs_plan.specs.Operands.{operand_tree, operand_names, is_pair, IsAlone}
use Rattle.rs_plan.specs.PlanView.{conditions_of, window_of, named_by_window}
use Rattle.rs_plan.proofs.QueryVariants.{table-query, table-named}
use Rattle.rs_plan.proofs.PlacingLaws.{placed-together}
use Rattle.rs_plan.proofs.Arms.{back, where-arm, rename-arm, window-arm, dissolve-arm, transform-arm, gaps-arm, merge-arm, minus-arm, cover-arm, overlay-arm}
use Rattle.rs_plan.proofs.Pairs.{becomes_pair, needs_pair}
use Rattle.rs_plan.proofs.placing.+place.Goals as goal

pub place-returns-in-Table : goal.place-returns-in-Table
place-returns-in-Table g t c =
    IfOk-weaker c.leaf.result _ _ (λ made placed. back (g.C.Counts.counted c.args.counts.now) c.args.query c.args.asked.windows.items (conditions_of c.args.asked.conditions) made.items _ _
    (ap query_of c.in-Table.is ∙ table-query c.in-Table.table) (ap named_in c.in-Table.is ∙ table-named c.in-Table.table) placed) c.leaf.ensures

pub place-returns-in_ok-asked-in-Where : goal.place-returns-in_ok-asked-in-Where
place-returns-in_ok-asked-in-Where g t c =
    IfOk-weaker c.place.result _ _ (λ made placed. where-arm (g.C.Counts.counted c.args.counts.now) c.args.query c.args.asked.windows.items (conditions_of c.args.asked.conditions) made.items
    c.into_inner.result c.in-Where.operand c.into_inner.ensures c.in-Where.condition c.in-Where.is c.in_ok-asked-in-Where.asked.windows.items (conditions_of c.in_ok-asked-in-Where.asked.conditions)
    c.in_ok-asked-in-Where.ensures.windows c.in_ok-asked-in-Where.ensures.conditions placed) c.place.ensures

pub place-returns-in_ok-asked-in-Window : goal.place-returns-in_ok-asked-in-Window
place-returns-in_ok-asked-in-Window g t c =
    IfOk-weaker c.place-in-Window.result _ _ (λ made placed. window-arm (g.C.Counts.counted c.args.counts.now) c.args.query c.args.asked.windows.items (conditions_of c.args.asked.conditions) made.items
    c.into_inner-in-Window.result c.in-Window.operand c.into_inner-in-Window.ensures c.in-Window.window c.in-Window.is c.planned_window.result c.planned_window.ensures.means c.planned_window.ensures.names
    c.in_ok-asked-in-Window.asked.windows.items (conditions_of c.in_ok-asked-in-Window.asked.conditions) c.in_ok-asked-in-Window.ensures.windows (ap conditions_of c.in_ok-asked-in-Window.ensures.conditions) placed) c.place-in-Window.ensures

pub place-returns-in-Rename : goal.place-returns-in-Rename
place-returns-in-Rename g t c =
    IfOk-weaker c.place-in-Rename.result _ _ (λ made placed. rename-arm (g.C.Counts.counted c.args.counts.now) c.args.query c.args.asked.windows.items (conditions_of c.args.asked.conditions) made.items
    c.into_inner-in-Rename.result c.in-Rename.operand c.into_inner-in-Rename.ensures c.in-Rename.field-1 c.in-Rename.field-2 c.in-Rename.is placed) c.place-in-Rename.ensures

pub place-returns-in_ok-one-in-Dissolve : goal.place-returns-in_ok-one-in-Dissolve
place-returns-in_ok-one-in-Dissolve g t c =
    IfOk-weaker c.dissolve.result _ _ (λ made alone. dissolve-arm (g.C.Counts.counted c.args.counts.now) c.args.query c.args.asked.windows.items (conditions_of c.args.asked.conditions) made.items
    c.into_inner-in-Dissolve.result c.in-Dissolve.operand c.into_inner-in-Dissolve.ensures c.in-Dissolve.columns c.in-Dissolve.is c.in_ok-asked-in-Dissolve.asked.windows.items (conditions_of c.in_ok-asked-in-Dissolve.asked.conditions) c.in_ok-one-in-Dissolve.one
    c.in_ok-asked-in-Dissolve.ensures.windows (c.in_ok-asked-in-Dissolve.ensures.conditions ∙ ap (λ l. map (under_dissolve l) (conditions_of c.args.asked.conditions)) c.as_slice.ensures.value) c.in_ok-one-in-Dissolve.ensures alone) c.dissolve.ensures

pub place-returns-in_ok-one-in-Transform : goal.place-returns-in_ok-one-in-Transform
place-returns-in_ok-one-in-Transform g t c =
    IfOk-weaker c.transform.result _ _ (λ made alone. transform-arm (g.C.Counts.counted c.args.counts.now) c.args.query c.args.asked.windows.items (conditions_of c.args.asked.conditions) made.items
    c.into_inner-in-Transform.result c.in-Transform.operand c.into_inner-in-Transform.ensures c.in-Transform.name c.in-Transform.pieces c.in-Transform.is _ c.in_ok-one-in-Transform.one c.new.ensures.items c.in_ok-one-in-Transform.ensures
    (subst (λ l. IsAlone made.items (rule.under_window (map window_of c.args.asked.windows.items) (plans.transform_node c.in-Transform.name.bytes (checked.located_pieces l) (operand_tree c.in_ok-one-in-Transform.one))) c.in_ok-one-in-Transform.one.weight c.in_ok-one-in-Transform.one.width (map named_by_window c.args.asked.windows.items ++ (flat_map checked.named_by_piece l ++ operand_names c.in_ok-one-in-Transform.one))) c.as_slice-in-Transform.ensures.value alone)) c.transform.ensures

pub place-returns-in_ok-one-in-Gaps : goal.place-returns-in_ok-one-in-Gaps
place-returns-in_ok-one-in-Gaps g t c =
    IfOk-weaker c.gaps.result _ _ (λ made alone. gaps-arm (g.C.Counts.counted c.args.counts.now) c.args.query c.args.asked.windows.items (conditions_of c.args.asked.conditions) made.items
    c.into_inner-in-Gaps.result c.in-Gaps.operand c.into_inner-in-Gaps.ensures c.in-Gaps.is c.nothing.result.windows.items (conditions_of c.nothing.result.conditions) c.in_ok-one-in-Gaps.one
    c.nothing.ensures.windows c.nothing.ensures.conditions c.in_ok-one-in-Gaps.ensures alone) c.gaps.ensures

pub place_pair-returns-in_ok-right-in-Merge : goal.place_pair-returns-in_ok-right-in-Merge
place_pair-returns-in_ok-right-in-Merge g t c =
    IfOk-weaker c.of_rows.result _ _ (λ made alone. merge-arm (g.C.Counts.counted c.args.counts.now) c.args.query c.args.asked.windows.items (conditions_of c.args.asked.conditions) made.items
    c.into_inner.result c.into_inner-in-Merge.result c.in-Merge.first c.in-Merge.second c.into_inner.ensures c.into_inner-in-Merge.ensures
    c.in_ok-other-in-Merge.other.windows.items c.args.asked.windows.items (conditions_of c.in_ok-other-in-Merge.other.conditions) (conditions_of c.args.asked.conditions)
    c.in_ok-left-in-Merge.left c.in_ok-right-in-Merge.right c.in_ok-left-in-Merge.ensures c.in_ok-right-in-Merge.ensures c.in_ok-other-in-Merge.ensures.windows refl c.in-Merge.is c.in_ok-other-in-Merge.ensures.conditions refl alone) c.of_rows.ensures

pub place_pair-returns-in_ok-right-in-Minus : goal.place_pair-returns-in_ok-right-in-Minus
place_pair-returns-in_ok-right-in-Minus g t c =
    IfOk-weaker c.of_rows-in-Minus.result _ _ (λ made alone. minus-arm (g.C.Counts.counted c.args.counts.now) c.args.query c.args.asked.windows.items (conditions_of c.args.asked.conditions) made.items
    c.into_inner-in-Minus.result c.into_inner-in-Minus-2.result c.in-Minus.first c.in-Minus.second c.into_inner-in-Minus.ensures c.into_inner-in-Minus-2.ensures
    c.in_ok-other-in-Minus.other.windows.items c.args.asked.windows.items (conditions_of c.in_ok-other-in-Minus.other.conditions) (conditions_of c.args.asked.conditions)
    c.in_ok-left-in-Minus.left c.in_ok-right-in-Minus.right c.in_ok-left-in-Minus.ensures c.in_ok-right-in-Minus.ensures c.in_ok-other-in-Minus.ensures.windows refl c.in-Minus.is c.in_ok-other-in-Minus.ensures.conditions refl alone) c.of_rows-in-Minus.ensures

pub place_pair-returns-in_ok-right-in-Cover : goal.place_pair-returns-in_ok-right-in-Cover
place_pair-returns-in_ok-right-in-Cover g t c =
    IfOk-weaker c.cover.result _ _ (λ made alone. cover-arm (g.C.Counts.counted c.args.counts.now) c.args.query c.args.asked.windows.items (conditions_of c.args.asked.conditions) made.items
    c.into_inner-in-Cover.result c.into_inner-in-Cover-2.result c.in-Cover.first c.in-Cover.second c.into_inner-in-Cover.ensures c.into_inner-in-Cover-2.ensures
    c.in_ok-other-in-Cover.other.windows.items c.args.asked.windows.items (conditions_of c.in_ok-other-in-Cover.other.conditions) (conditions_of c.new.result)
    c.in_ok-left-in-Cover.left c.in_ok-right-in-Cover.right c.in_ok-left-in-Cover.ensures c.in_ok-right-in-Cover.ensures c.in_ok-other-in-Cover.ensures.windows refl c.in-Cover.left_width c.in-Cover.right_width c.in-Cover.is
    (c.in_ok-other-in-Cover.ensures.conditions ∙ ap (map condition_of) c.new.ensures.items) (ap (map condition_of) c.new.ensures.items) alone) c.cover.ensures

pub place_pair-returns-in_ok-side_by_side-in-Overlay : goal.place_pair-returns-in_ok-side_by_side-in-Overlay
place_pair-returns-in_ok-side_by_side-in-Overlay g t c =
    IfOk-weaker c.overlay_under_where.result _ _ (λ made over. overlay-arm (g.C.Counts.counted c.args.counts.now) c.args.query c.args.asked.windows.items (conditions_of c.args.asked.conditions) made.items
    c.into_inner-in-Overlay.result c.into_inner-in-Overlay-2.result c.in-Overlay.first c.in-Overlay.second c.into_inner-in-Overlay.ensures c.into_inner-in-Overlay-2.ensures
    c.in_ok-shares-in-Overlay.shares.left.windows.items c.in_ok-shares-in-Overlay.shares.right.windows.items (conditions_of c.in_ok-shares-in-Overlay.shares.left.conditions) (conditions_of c.in_ok-shares-in-Overlay.shares.right.conditions)
    c.in-Overlay.is c.deref.result.now c.deref.ensures c.width_of.result c.width_of.ensures c.in_ok-left-in-Overlay.left.items c.in_ok-right-in-Overlay.right.items c.in_ok-side_by_side-in-Overlay.field-0.items
    c.in_ok-left-in-Overlay.ensures c.in_ok-right-in-Overlay.ensures c.in_ok-shares-in-Overlay.ensures.left_windows c.in_ok-shares-in-Overlay.ensures.right_windows c.in_ok-shares-in-Overlay.ensures.left c.in_ok-shares-in-Overlay.ensures.right
    c.in_ok-side_by_side-in-Overlay.ensures (conditions_of c.in_ok-shares-in-Overlay.shares.both) c.in_ok-shares-in-Overlay.ensures.both over) c.overlay_under_where.ensures

pub place-place_pair-requires : goal.place-place_pair-requires
place-place_pair-requires g t c κs within =
    let other = c.in_default in
    let pair : is_pair (query_of c.args.query) ≡ true =
    becomes_pair c.args.query (record { table = other.not-Table; filtered = other.not-Where; dissolved = other.not-Dissolve; renamed = other.not-Rename; windowed = other.not-Window; transformed = other.not-Transform; gapped = other.not-Gaps }) in
    search rules

pub place_pair-unreachable-requires : goal.place_pair-unreachable-requires
place_pair-unreachable-requires g t c =
    let other = c.in_default in
    needs_pair c.args.query (record { overlaid = other.not-Overlay; covered = other.not-Cover; merged = other.not-Merge; subtracted = other.not-Minus }) c.requires.pair

pub place_alone-returns : goal.place_alone-returns
place_alone-returns g t c =
    IfOk-weaker c.together.result _ _ (λ one is. placed-together (g.C.Counts.counted c.args.counts.now) (query_of c.args.query) (named_in c.args.query) c.args.asked.windows.items (conditions_of c.args.asked.conditions) c.in_ok-place.field-0.items c.in_ok-place.ensures one is) c.together.ensures
