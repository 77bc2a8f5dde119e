use Rattle.std.proofs.Common.{sym, ap, map, ◌∙◌}
use Rattle.std.specs.List.{list_all}
use Rattle.rs_answers.specs.Within.{is_local}
use Rattle.rs_answers.proofs.PlansWithin.{local-overlay}
use Rattle.rs_answers.proofs.within.+local.Goals as goal

pub is_local-returns-in-Overlay : goal.is_local-returns-in-Overlay
is_local-returns-in-Overlay t c =
    c.are_local.ensures ∙ ap (λ operands. list_all (λ local. local) (map is_local operands)) c.as_slice.ensures.value ∙ sym (ap is_local c.in-Overlay.is ∙ local-overlay _ c.in-Overlay.operands)
