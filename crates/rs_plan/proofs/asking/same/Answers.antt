use Rattle.std.proofs.Common.{map, ap, ◌∙◌}
use Rattle.rs_facts.specs.ConditionView.{condition_of}
use Rattle.rs_plan.proofs.ConditionWalks.{all-at_same}
use Rattle.rs_plan.proofs.asking.same.Goals as goal

pub returns-clause-conditions : goal.returns-clause-conditions
returns-clause-conditions c = c.in_ok-copies.ensures ∙ all-at_same (map condition_of c.as_slice-2.result.now) ∙ ap (map condition_of) c.as_slice-2.ensures.value
