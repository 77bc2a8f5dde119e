use Rattle.std.proofs.Common.{◌∙◌, map, sym, ap}
use Rattle.rs_machine.specs.Lawful.{widened}
use Rattle.rs_syntax.specs.QueryView.{condition_tree, query_tree, window_tree}
use Rattle.rs_syntax.specs.Tree.{QueryTree, WindowTree, covered, dissolved, filtered, gapped, merged, overlaid, renamed, subtracted, transformed, windowed}
use Rattle.rs_stored_catalog.proofs.QueryTrees.{cover_tree, dissolve_tree, gaps_tree, merge_tree, minus_tree, named_tree, overlay_tree, rename_tree, transform_tree, where_tree, window_query_tree}
use Rattle.rs_stored_catalog.proofs.view_windows.+widen.Goals as goal

pub returns-in-Named : goal.returns-in-Named
returns-in-Named t c = ap query_tree c.in-Named.is ∙ named_tree c.in-Named.field-0 ∙ sym (ap (λ q. widened (query_tree q)) c.in-Named.is ∙ ap widened (named_tree c.in-Named.field-0))

pub returns-in-Where : goal.returns-in-Where
returns-in-Where t c =
    where_tree _ c.in-Where.field-1
    ∙ ap (λ (q : QueryTree). filtered q (condition_tree c.in-Where.field-1.items)) (c.widen.ensures ∙ ap (λ v. widened (query_tree v)) c.deref_mut.ensures.value)
    ∙ sym (ap (λ q. widened (query_tree q)) c.in-Where.is ∙ ap widened (where_tree c.in-Where.operand c.in-Where.field-1))

pub returns-in-Dissolve : goal.returns-in-Dissolve
returns-in-Dissolve t c =
    dissolve_tree _ c.in-Dissolve.field-1
    ∙ ap (λ (q : QueryTree). dissolved q (map (λ name. name.bytes) c.in-Dissolve.field-1.items)) (c.widen-in-Dissolve.ensures ∙ ap (λ v. widened (query_tree v)) c.deref_mut-in-Dissolve.ensures.value)
    ∙ sym (ap (λ q. widened (query_tree q)) c.in-Dissolve.is ∙ ap widened (dissolve_tree c.in-Dissolve.operand c.in-Dissolve.field-1))

pub returns-in-Rename : goal.returns-in-Rename
returns-in-Rename t c =
    rename_tree _ c.in-Rename.field-1 c.in-Rename.field-2
    ∙ ap (λ (q : QueryTree). renamed q c.in-Rename.field-1.bytes c.in-Rename.field-2.bytes) (c.widen-in-Rename.ensures ∙ ap (λ v. widened (query_tree v)) c.deref_mut-in-Rename.ensures.value)
    ∙ sym (ap (λ q. widened (query_tree q)) c.in-Rename.is ∙ ap widened (rename_tree c.in-Rename.operand c.in-Rename.field-1 c.in-Rename.field-2))

pub returns-in-Transform : goal.returns-in-Transform
returns-in-Transform t c =
    transform_tree _ c.in-Transform.field-1
    ∙ ap (λ (q : QueryTree). transformed q c.in-Transform.field-1.bytes) (c.widen-in-Transform.ensures ∙ ap (λ v. widened (query_tree v)) c.deref_mut-in-Transform.ensures.value)
    ∙ sym (ap (λ q. widened (query_tree q)) c.in-Transform.is ∙ ap widened (transform_tree c.in-Transform.operand c.in-Transform.field-1))

pub returns-in-Gaps : goal.returns-in-Gaps
returns-in-Gaps t c =
    gaps_tree _
    ∙ ap gapped (c.widen-in-Gaps.ensures ∙ ap (λ v. widened (query_tree v)) c.deref_mut-in-Gaps.ensures.value)
    ∙ sym (ap (λ q. widened (query_tree q)) c.in-Gaps.is ∙ ap widened (gaps_tree c.in-Gaps.operand))

pub returns-in-Window : goal.returns-in-Window
returns-in-Window t c =
    window_query_tree _ c.whole_window.result
    ∙ ap (λ (q : QueryTree). windowed q (window_tree c.whole_window.result)) (c.widen-in-Window.ensures ∙ ap (λ v. widened (query_tree v)) c.deref_mut-in-Window.ensures.value)
    ∙ ap (λ (w : WindowTree). windowed (widened (query_tree c.in-Window.operand.value)) w) c.whole_window.ensures
    ∙ sym (ap (λ q. widened (query_tree q)) c.in-Window.is ∙ ap widened (window_query_tree c.in-Window.operand c.in-Window.window))

pub returns-in-Overlay : goal.returns-in-Overlay
returns-in-Overlay t c =
    overlay_tree _ _
    ∙ ap (λ (q : QueryTree). overlaid q (query_tree c.widen-in-Overlay-2.new.query)) (c.widen-in-Overlay.ensures ∙ ap (λ v. widened (query_tree v)) c.deref_mut-in-Overlay.ensures.value)
    ∙ ap (λ (q : QueryTree). overlaid (widened (query_tree c.in-Overlay.left.value)) q) (c.widen-in-Overlay-2.ensures ∙ ap (λ v. widened (query_tree v)) c.deref_mut-in-Overlay-2.ensures.value)
    ∙ sym (ap (λ q. widened (query_tree q)) c.in-Overlay.is ∙ ap widened (overlay_tree c.in-Overlay.left c.in-Overlay.right))

pub returns-in-Cover : goal.returns-in-Cover
returns-in-Cover t c =
    cover_tree _ _
    ∙ ap (λ (q : QueryTree). covered q (query_tree c.widen-in-Cover-2.new.query)) (c.widen-in-Cover.ensures ∙ ap (λ v. widened (query_tree v)) c.deref_mut-in-Cover.ensures.value)
    ∙ ap (λ (q : QueryTree). covered (widened (query_tree c.in-Cover.left.value)) q) (c.widen-in-Cover-2.ensures ∙ ap (λ v. widened (query_tree v)) c.deref_mut-in-Cover-2.ensures.value)
    ∙ sym (ap (λ q. widened (query_tree q)) c.in-Cover.is ∙ ap widened (cover_tree c.in-Cover.left c.in-Cover.right))

pub returns-in-Merge : goal.returns-in-Merge
returns-in-Merge t c =
    merge_tree _ _
    ∙ ap (λ (q : QueryTree). merged q (query_tree c.widen-in-Merge-2.new.query)) (c.widen-in-Merge.ensures ∙ ap (λ v. widened (query_tree v)) c.deref_mut-in-Merge.ensures.value)
    ∙ ap (λ (q : QueryTree). merged (widened (query_tree c.in-Merge.left.value)) q) (c.widen-in-Merge-2.ensures ∙ ap (λ v. widened (query_tree v)) c.deref_mut-in-Merge-2.ensures.value)
    ∙ sym (ap (λ q. widened (query_tree q)) c.in-Merge.is ∙ ap widened (merge_tree c.in-Merge.left c.in-Merge.right))

pub returns-in-Minus : goal.returns-in-Minus
returns-in-Minus t c =
    minus_tree _ _
    ∙ ap (λ (q : QueryTree). subtracted q (query_tree c.widen-in-Minus-2.new.query)) (c.widen-in-Minus.ensures ∙ ap (λ v. widened (query_tree v)) c.deref_mut-in-Minus.ensures.value)
    ∙ ap (λ (q : QueryTree). subtracted (widened (query_tree c.in-Minus.left.value)) q) (c.widen-in-Minus-2.ensures ∙ ap (λ v. widened (query_tree v)) c.deref_mut-in-Minus-2.ensures.value)
    ∙ sym (ap (λ q. widened (query_tree q)) c.in-Minus.is ∙ ap widened (minus_tree c.in-Minus.left c.in-Minus.right))
