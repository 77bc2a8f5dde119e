use Rattle.std.proofs.Common.{subst}
use Rattle.rs_exec.specs.Windows.{AreOn}
use Rattle.rs_exec.proofs.OtherRoutes.{nothing-left, something-left}
use Rattle.rs_exec.proofs.elsewhere.is_elsewhere.Goals as goal

pub returns-clause-nothing : goal.returns-clause-nothing
returns-clause-nothing c = λ e.
    c.windows_over.ensures.nothing c.args.route (nothing-left c.part_inside.result c.is_none.result c.windows_over.result.now c.args.route c.is_none.ensures e c.part_inside.ensures.none)

pub returns-clause-something : goal.returns-clause-something
returns-clause-something c = λ e.
    subst (λ windows. AreOn windows c.args.route) c.windows_over.ensures.over
    (something-left c.part_inside.result c.is_none.result c.windows_over.result.now c.args.route c.is_none.ensures e c.part_inside.ensures.some)
