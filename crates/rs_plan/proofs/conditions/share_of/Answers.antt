use Rattle.std.proofs.Common.{◌++◌, ap, ◌∙◌}
use Rattle.rs_facts.specs.ConditionView.{condition_of}
use Rattle.rs_planning.specs.Conjuncts.{condition_at}
use Rattle.rs_plan.specs.Conditions.{is_share, places_of_share, one_of_share}
use Rattle.rs_plan.proofs.Walks.{chosen-more}
use Rattle.rs_plan.proofs.conditions.share_of.Goals as goal

pub loop-condition-preserved : goal.loop-condition-preserved
loop-condition-preserved c =
    c.in_ok-chosen.ensures ∙ ap (λ l. l ++ one_of_share c.args.share c.args.width (condition_of c.condition-item.result)) c.loop-condition.invariant
    ∙ chosen-more (is_share c.args.share c.args.width) (condition_at (places_of_share c.args.share c.args.width)) condition_of c.args.conditions.now c.loop-condition.condition-index c.condition-item.result c.loop-condition-test.true c.condition-item.is
