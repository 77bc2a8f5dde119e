use Rattle.std.proofs.Common.{sym, ap, ◌∙◌, map, subst}
use Rattle.rs_exec.specs.Elsewhere.{HasNothingOn, BeginsWithNothingOn, windows_over, windows_of_first}
use Rattle.rs_exec.specs.Meaning.{meaning_of, rows_in, rows_together}
use Rattle.rs_exec.specs.Windows.{AreOff}
use Rattle.rs_exec.proofs.OtherRoutes.{leaf-nothing, window-nothing, operand-nothing, overlay-nothing, first-nothing, over-leaf, over-window, over-overlay, operand-over}
use Rattle.rs_exec.proofs.elsewhere.+over.Goals as goal

-- ---- which windows they are

pub windows_over-returns-in-Leaf-clause-over : goal.windows_over-returns-in-Leaf-clause-over
windows_over-returns-in-Leaf-clause-over t c = c.as_slice.ensures.value ∙ sym (ap windows_over c.in-Leaf.is ∙ over-leaf c.in-Leaf.leaf)

pub windows_over-returns-in-Window-clause-over : goal.windows_over-returns-in-Window-clause-over
windows_over-returns-in-Window-clause-over t c = c.as_slice-in-Window.ensures.value ∙ sym (ap windows_over c.in-Window.is ∙ over-window c.in-Window.windows _)

pub windows_over-returns-in-Where-clause-over : goal.windows_over-returns-in-Where-clause-over
windows_over-returns-in-Where-clause-over t c = c.windows_over.ensures.over ∙ ap windows_over c.deref.ensures ∙ operand-over c.args.plan.now c.in-Where.operand c.in-Where.is

pub windows_over-returns-in-Overlay-clause-over : goal.windows_over-returns-in-Overlay-clause-over
windows_over-returns-in-Overlay-clause-over t c =
    c.windows_over_first.ensures.over ∙ ap (λ operands. windows_of_first (map windows_over operands)) c.as_slice-in-Overlay.ensures.value ∙ sym (ap windows_over c.in-Overlay.is ∙ over-overlay _ c.in-Overlay.operands)

pub windows_over_first-returns-in-Some-clause-over : goal.windows_over_first-returns-in-Some-clause-over
windows_over_first-returns-in-Some-clause-over t c = c.windows_over.ensures.over ∙ ap (λ operands. windows_of_first (map windows_over operands)) (sym c.in-Some.ensures.cases.0)

-- ---- where they leave nothing

pub windows_over-returns-in-Leaf-clause-nothing : goal.windows_over-returns-in-Leaf-clause-nothing
windows_over-returns-in-Leaf-clause-nothing t c = λ route off.
    subst (HasNothingOn route) (sym c.in-Leaf.is) (leaf-nothing c.in-Leaf.leaf route (subst (λ windows. AreOff windows route) c.as_slice.ensures.value off))

pub windows_over-returns-in-Window-clause-nothing : goal.windows_over-returns-in-Window-clause-nothing
windows_over-returns-in-Window-clause-nothing t c = λ route off.
    subst (HasNothingOn route) (sym c.in-Window.is) (window-nothing c.in-Window.windows _ route (subst (λ windows. AreOff windows route) c.as_slice-in-Window.ensures.value off))

pub windows_over-returns-in-Where-clause-nothing : goal.windows_over-returns-in-Where-clause-nothing
windows_over-returns-in-Where-clause-nothing t c = λ route off.
    operand-nothing c.args.plan.now c.in-Where.operand route c.in-Where.is (subst (HasNothingOn route) c.deref.ensures (c.windows_over.ensures.nothing route off))

pub windows_over-returns-in-Overlay-clause-nothing : goal.windows_over-returns-in-Overlay-clause-nothing
windows_over-returns-in-Overlay-clause-nothing t c = λ route off.
    subst (HasNothingOn route) (sym c.in-Overlay.is)
    (overlay-nothing _ c.in-Overlay.operands route (subst (BeginsWithNothingOn route) c.as_slice-in-Overlay.ensures.value (c.windows_over_first.ensures.nothing route off)))

pub windows_over_first-returns-in-Some-clause-nothing : goal.windows_over_first-returns-in-Some-clause-nothing
windows_over_first-returns-in-Some-clause-nothing t c = λ route off.
    first-nothing c.args.operands.now _ c.in-Some.first.now route c.in-Some.ensures.cases.0 (c.windows_over.ensures.nothing route off)

-- where no window takes anything away, nothing is left only of nothing
pub windows_over-returns-in-Cover-clause-nothing : goal.windows_over-returns-in-Cover-clause-nothing
windows_over-returns-in-Cover-clause-nothing t c = λ route off snapshot k. off.nothing k (rows_in c.args.plan.now snapshot route k)

pub windows_over_first-returns-in-None-clause-nothing : goal.windows_over_first-returns-in-None-clause-nothing
windows_over_first-returns-in-None-clause-nothing t c = λ route off snapshot k. off.nothing k (rows_together (map meaning_of c.args.operands.now) snapshot route k)
