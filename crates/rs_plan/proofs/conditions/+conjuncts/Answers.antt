use Rattle.std.proofs.Common.{◌≡◌, ◌++◌, ◌∷◌, [], flat_map, length, sym, ap, subst, ◌∙◌, arith}
use Rattle.std.proofs.lemmas.Result.{IfOk-weaker}
use Rattle.rs_facts.specs.ConditionView.{condition_of}
use Rattle.rs_planning.specs.Conjuncts.{conjuncts}
use Rattle.rs_checker.proofs.ConditionLaws.{is_none, is_some}
use Rattle.rs_plan.specs.PlanView.{conditions_of}
use Rattle.rs_plan.proofs.ConditionWalks.{none-conjuncts, both-conjuncts, only-conjuncts, several-conjuncts}
use Rattle.rs_plan.proofs.conditions.+conjuncts.Goals as goal

pub and_conjuncts-returns-then-is_empty : goal.and_conjuncts-returns-then-is_empty
and_conjuncts-returns-then-is_empty t c =
    let none : length c.in-Both.parts.items ≡ 0 = is_none c.is_empty.result _ _ c.is_empty.ensures c.if-is_empty.true c.in-Both.parts.ok.0 in
    IfOk-weaker c.and_whole.result _ _ (λ all e. e ∙ ap (λ l. conditions_of c.args.conditions ++ l)
    (subst (λ k. condition_of k ∷ [] ≡ conjuncts (condition_of k)) (sym c.in-Both.is) (none-conjuncts c.in-Both.parts none))) c.and_whole.ensures

pub and_conjuncts-returns-else-is_empty : goal.and_conjuncts-returns-else-is_empty
and_conjuncts-returns-else-is_empty t c =
    IfOk-weaker c.and_each.result _ _ (λ all e. e ∙ ap (λ l. conditions_of c.args.conditions ++ l)
    (ap (flat_map (λ part. conjuncts (condition_of part))) c.as_slice.ensures.value
    ∙ both-conjuncts c.in-Both.parts (is_some c.is_empty.result _ _ c.is_empty.ensures c.if-is_empty.false c.in-Both.parts.ok.0)
    ∙ ap (λ k. conjuncts (condition_of k)) (sym c.in-Both.is))) c.and_each.ensures

pub and_conjuncts-returns-then-len-eq1 : goal.and_conjuncts-returns-then-len-eq1
and_conjuncts-returns-then-len-eq1 t c =
    let one : length c.in-Either.parts.items ≡ 1 = omega (arith, c.len.ensures, c.in-Either.parts.ok.0) in
    IfOk-weaker c.and_each-then-len-eq1.result _ _ (λ all e. e ∙ ap (λ l. conditions_of c.args.conditions ++ l)
    (ap (flat_map (λ part. conjuncts (condition_of part))) c.as_slice-then-len-eq1.ensures.value ∙ only-conjuncts c.in-Either.parts one ∙ ap (λ k. conjuncts (condition_of k)) (sym c.in-Either.is))) c.and_each-then-len-eq1.ensures

pub and_conjuncts-returns-else-len-eq1 : goal.and_conjuncts-returns-else-len-eq1
and_conjuncts-returns-else-len-eq1 t c =
    let several = λ (e : length c.in-Either.parts.items ≡ 1). c.if-len-eq1.false (omega (arith, e, c.len.ensures, c.in-Either.parts.ok.0)) in
    IfOk-weaker c.and_whole-in-Either.result _ _ (λ all e. e ∙ ap (λ l. conditions_of c.args.conditions ++ l)
    (subst (λ k. condition_of k ∷ [] ≡ conjuncts (condition_of k)) (sym c.in-Either.is) (several-conjuncts c.in-Either.parts several))) c.and_whole-in-Either.ensures
