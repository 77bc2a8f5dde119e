use Rattle.std.proofs.Common.{ap, ◌∙◌}
use Rattle.rs_exec.specs.Windows.{first_route}
use Rattle.rs_exec.proofs.WindowLaws.{first-is, first-off}
use Rattle.rs_exec.proofs.elsewhere.route_over.Goals as goal

pub returns-in-Some-clause-first : goal.returns-in-Some-clause-first
returns-in-Some-clause-first c =
    first-is c.windows_over.result.now _ c.in-Some.window.now c.planned_route_of.result c.in-Some.ensures.cases.0 c.planned_route_of.ensures ∙ ap first_route c.windows_over.ensures.over

pub returns-in-Some-clause-nothing : goal.returns-in-Some-clause-nothing
returns-in-Some-clause-nothing c = λ number other.
    c.windows_over.ensures.nothing number (first-off c.windows_over.result.now _ c.in-Some.window.now c.planned_route_of.result number c.in-Some.ensures.cases.0 c.planned_route_of.ensures other)
