use Rattle.std.proofs.Common.{refl, sym, ◌∙◌}
use Rattle.std.specs.List.{list_any}
use Rattle.rs_facts.specs.ConditionView.{condition_of}
use Rattle.rs_planning.specs.Conjuncts.{equates}
use Rattle.rs_checker.proofs.Walks.{or_found, or_other, at_end}
use Rattle.rs_plan.proofs.Walks.{any-map}
use Rattle.rs_plan.proofs.conditions.some_equates.Goals as goal

pub returns-then-equates : goal.returns-then-equates
returns-then-equates c =
    or_found (list_any (λ condition. equates c.args.place (condition_of condition))) (λ condition rest. equates c.args.place (condition_of condition)) (λ x xs. refl) _ c.args.conditions.now c.loop-condition.condition-index c.condition-item.result c.equates.result c.loop-condition.invariant c.loop-condition-test.true c.condition-item.is c.equates.ensures c.if-equates.true
    ∙ sym (any-map (equates c.args.place) condition_of c.args.conditions.now)

pub loop-condition-preserved : goal.loop-condition-preserved
loop-condition-preserved c =
    or_other (list_any (λ condition. equates c.args.place (condition_of condition))) (λ condition rest. equates c.args.place (condition_of condition)) (λ x xs. refl) _ c.args.conditions.now c.loop-condition.condition-index c.condition-item.result c.equates.result c.loop-condition.invariant c.loop-condition-test.true c.condition-item.is c.equates.ensures c.if-equates.false

pub returns : goal.returns
returns c =
    at_end (list_any (λ condition. equates c.args.place (condition_of condition))) _ c.args.conditions.now c.loop-condition.condition-index c.loop-condition.invariant c.loop-condition-test.false
    ∙ sym (any-map (equates c.args.place) condition_of c.args.conditions.now)
