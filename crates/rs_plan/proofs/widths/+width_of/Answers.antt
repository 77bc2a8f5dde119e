use Rattle.std.proofs.Common.{◌-◌, ◌^◌, length, min, ap, ◌∙◌}
use Rattle.rs_plan.proofs.WidthLaws.{table-wide, where-wide, rename-wide, window-wide, transform-wide, gaps-wide, merge-wide, minus-wide, dissolve-wide, cover-wide, overlay-wide}
use Rattle.rs_plan.proofs.widths.+width_of.Goals as goal

pub returns-in-Table : goal.returns-in-Table
returns-in-Table t c = table-wide c.args.query.now c.in-Table.table c.in-Table.is

pub returns-in-Dissolve : goal.returns-in-Dissolve
returns-in-Dissolve t c = dissolve-wide c.args.query.now c.in-Dissolve.field-0 c.in-Dissolve.columns c.count.result (c.count.ensures ∙ ap (λ l. min (length l) (2 ^ 8 - 1)) c.as_slice.ensures.value) c.in-Dissolve.is

pub returns-in-Overlay : goal.returns-in-Overlay
returns-in-Overlay t c =
    overlay-wide c.args.query.now c.deref-in-Overlay.result.now c.deref-in-Overlay-2.result.now c.in-Overlay.left c.in-Overlay.right c.width_of-in-Overlay.result c.width_of-in-Overlay-2.result c.saturating_add.result
    c.deref-in-Overlay.ensures c.deref-in-Overlay-2.ensures c.width_of-in-Overlay.ensures c.width_of-in-Overlay-2.ensures c.saturating_add.ensures c.in-Overlay.is

pub returns-in-Cover : goal.returns-in-Cover
returns-in-Cover t c = cover-wide c.args.query.now c.in-Cover.left c.in-Cover.right c.in-Cover.field-2 c.in-Cover.field-3 c.saturating_add-in-Cover.result c.saturating_add-in-Cover.ensures c.in-Cover.is

pub returns-in-Where : goal.returns-in-Where
returns-in-Where t c = where-wide c.args.query.now c.deref.result.now c.in-Where.operand c.deref.ensures c.width_of.result c.width_of.ensures c.in-Where.field-1 c.in-Where.is

pub returns-in-Rename : goal.returns-in-Rename
returns-in-Rename t c = rename-wide c.args.query.now c.deref-in-Rename.result.now c.in-Rename.operand c.deref-in-Rename.ensures c.width_of-in-Rename.result c.width_of-in-Rename.ensures c.in-Rename.field-1 c.in-Rename.field-2 c.in-Rename.is

pub returns-in-Window : goal.returns-in-Window
returns-in-Window t c = window-wide c.args.query.now c.deref-in-Window.result.now c.in-Window.operand c.deref-in-Window.ensures c.width_of-in-Window.result c.width_of-in-Window.ensures c.in-Window.field-1 c.in-Window.is

pub returns-in-Transform : goal.returns-in-Transform
returns-in-Transform t c = transform-wide c.args.query.now c.deref-in-Transform.result.now c.in-Transform.operand c.deref-in-Transform.ensures c.width_of-in-Transform.result c.width_of-in-Transform.ensures c.in-Transform.field-1 c.in-Transform.field-2 c.in-Transform.is

pub returns-in-Gaps : goal.returns-in-Gaps
returns-in-Gaps t c = gaps-wide c.args.query.now c.in-Gaps.field-0 c.in-Gaps.is

pub returns-in-Merge : goal.returns-in-Merge
returns-in-Merge t c = merge-wide c.args.query.now c.deref-in-Merge.result.now c.in-Merge.left c.deref-in-Merge.ensures c.width_of-in-Merge.result c.width_of-in-Merge.ensures c.in-Merge.field-1 c.in-Merge.is

pub returns-in-Minus : goal.returns-in-Minus
returns-in-Minus t c = minus-wide c.args.query.now c.deref-in-Minus.result.now c.in-Minus.left c.deref-in-Minus.ensures c.width_of-in-Minus.result c.width_of-in-Minus.ensures c.in-Minus.field-1 c.in-Minus.is
