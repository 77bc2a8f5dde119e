use Rattle.rs_machine_laws.proofs.AnsweredSteps.{answered_steps}
use Rattle.rs_machine_laws.proofs.cursors.answered_lines_are_steps.Goals as goal

pub returns : goal.returns
returns c = answered_steps c.line_has_an_answer.ensures
