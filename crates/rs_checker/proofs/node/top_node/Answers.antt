use Rattle.std.proofs.Common.{map, sym, ap, ◌∙◌}
use Rattle.rs_syntax.specs.declared.queries.Query.{fold-roll-Query}
use Rattle.rs_syntax.specs.declared.queries.Query.TheVariants.{rolls-Where, rolls-Dissolve, rolls-Rename, rolls-Overlay, rolls-Cover, rolls-Merge, rolls-Minus, rolls-Window}
use Rattle.rs_syntax.specs.declared.queries.Query.TheOpen.{Query-F}
use Rattle.rs_syntax.specs.QueryView.{condition_tree, window_tree, query_step, query_tree}
use Rattle.rs_syntax.specs.Tree.{QueryTree, filtered, dissolved, renamed, overlaid, covered, merged, subtracted, windowed}
use Rattle.rs_checker.proofs.node.top_node.Goals as goal

pub returns-in-Where : goal.returns-in-Where
returns-in-Where c =
    ap query_tree (c.in-Where.is ∙ sym (rolls-Where c.in-Where.operand c.in-Where.condition)) ∙ fold-roll-Query QueryTree query_step (Query-F.Where c.in-Where.operand c.in-Where.condition)
    ∙ sym (λ i. filtered (query_tree (c.deref.ensures i)) (condition_tree (c.as_slice.ensures.value i)))

pub returns-in-Dissolve : goal.returns-in-Dissolve
returns-in-Dissolve c =
    ap query_tree (c.in-Dissolve.is ∙ sym (rolls-Dissolve c.in-Dissolve.operand c.in-Dissolve.names)) ∙ fold-roll-Query QueryTree query_step (Query-F.Dissolve c.in-Dissolve.operand c.in-Dissolve.names)
    ∙ sym (λ i. dissolved (query_tree (c.deref-in-Dissolve.ensures i)) (map (λ name. name.bytes) (c.as_slice-in-Dissolve.ensures.value i)))

pub returns-in-Rename : goal.returns-in-Rename
returns-in-Rename c =
    ap query_tree (c.in-Rename.is ∙ sym (rolls-Rename c.in-Rename.operand c.in-Rename.from c.in-Rename.to)) ∙ fold-roll-Query QueryTree query_step (Query-F.Rename c.in-Rename.operand c.in-Rename.from c.in-Rename.to)
    ∙ sym (ap (λ operand. renamed (query_tree operand) c.in-Rename.from.bytes c.in-Rename.to.bytes) c.deref-in-Rename.ensures)

pub returns-in-Window : goal.returns-in-Window
returns-in-Window c =
    ap query_tree (c.in-Window.is ∙ sym (rolls-Window c.in-Window.operand c.in-Window.window)) ∙ fold-roll-Query QueryTree query_step (Query-F.Window c.in-Window.operand c.in-Window.window)
    ∙ sym (ap (λ operand. windowed (query_tree operand) (window_tree c.in-Window.window)) c.deref-in-Window.ensures)

pub returns-in-Overlay : goal.returns-in-Overlay
returns-in-Overlay c =
    ap query_tree (c.in-Overlay.is ∙ sym (rolls-Overlay c.in-Overlay.left c.in-Overlay.right)) ∙ fold-roll-Query QueryTree query_step (Query-F.Overlay c.in-Overlay.left c.in-Overlay.right)
    ∙ sym (λ i. overlaid (query_tree (c.deref-in-Overlay.ensures i)) (query_tree (c.deref-in-Overlay-2.ensures i)))

pub returns-in-Cover : goal.returns-in-Cover
returns-in-Cover c =
    ap query_tree (c.in-Cover.is ∙ sym (rolls-Cover c.in-Cover.left c.in-Cover.right)) ∙ fold-roll-Query QueryTree query_step (Query-F.Cover c.in-Cover.left c.in-Cover.right)
    ∙ sym (λ i. covered (query_tree (c.deref-in-Cover.ensures i)) (query_tree (c.deref-in-Cover-2.ensures i)))

pub returns-in-Merge : goal.returns-in-Merge
returns-in-Merge c =
    ap query_tree (c.in-Merge.is ∙ sym (rolls-Merge c.in-Merge.left c.in-Merge.right)) ∙ fold-roll-Query QueryTree query_step (Query-F.Merge c.in-Merge.left c.in-Merge.right)
    ∙ sym (λ i. merged (query_tree (c.deref-in-Merge.ensures i)) (query_tree (c.deref-in-Merge-2.ensures i)))

pub returns-in-Minus : goal.returns-in-Minus
returns-in-Minus c =
    ap query_tree (c.in-Minus.is ∙ sym (rolls-Minus c.in-Minus.left c.in-Minus.right)) ∙ fold-roll-Query QueryTree query_step (Query-F.Minus c.in-Minus.left c.in-Minus.right)
    ∙ sym (λ i. subtracted (query_tree (c.deref-in-Minus.ensures i)) (query_tree (c.deref-in-Minus-2.ensures i)))
