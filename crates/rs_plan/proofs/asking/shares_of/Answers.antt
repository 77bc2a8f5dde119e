use Rattle.std.proofs.Common.{◌∙◌, map, filter, ap}
use Rattle.rs_facts.specs.ConditionView.{condition_of}
use Rattle.rs_planning.specs.Conjuncts.{is_of_left, is_of_right, is_of_both, under_right}
use Rattle.rs_plan.proofs.ConditionWalks.{all-at_same}
use Rattle.rs_plan.proofs.asking.shares_of.Goals as goal

pub returns-clause-left : goal.returns-clause-left
returns-clause-left c = c.in_ok-left.ensures ∙ all-at_same (filter (is_of_left c.args.width) (map condition_of c.as_slice-conditions.result.now)) ∙ ap (λ l. filter (is_of_left c.args.width) (map condition_of l)) c.as_slice-conditions.ensures.value

pub returns-clause-right : goal.returns-clause-right
returns-clause-right c = c.in_ok-right.ensures ∙ ap (λ l. map (under_right c.args.width) (filter (is_of_right c.args.width) (map condition_of l))) c.as_slice-conditions.ensures.value

pub returns-clause-both : goal.returns-clause-both
returns-clause-both c = c.in_ok-both.ensures ∙ all-at_same (filter (is_of_both c.args.width) (map condition_of c.as_slice-conditions.result.now)) ∙ ap (λ l. filter (is_of_both c.args.width) (map condition_of l)) c.as_slice-conditions.ensures.value
