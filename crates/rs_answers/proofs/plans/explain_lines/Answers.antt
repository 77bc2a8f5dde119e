use Rattle.std.proofs.Common.{ap, ◌∙◌}
use Rattle.std.proofs.lemmas.Result.{IfOk-weaker}
use Rattle.rs_planning.specs.Explain.{explained, lines_from}
use Rattle.rs_answers.proofs.plans.explain_lines.Goals as goal

pub returns : goal.returns
unfolding explained
returns g c = IfOk-weaker c.explain.result _ _ (λ lines are state counted. are ∙ ap (lines_from 0) (c.in_ok-plan.ensures.by_rule state counted)) c.explain.ensures
