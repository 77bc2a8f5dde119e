use Rattle.rs_machine_laws.proofs.WideViews.{meant_pass_widened, widened_are_meant}
use Rattle.rs_machine_laws.proofs.wide_views.views_are_meant_where_widened_ones_pass.Goals as goal

pub returns-clause-meant : goal.returns-clause-meant
returns-clause-meant c = widened_are_meant

pub returns-clause-pass : goal.returns-clause-pass
returns-clause-pass c = meant_pass_widened
