use Rattle.std.proofs.Common.{map, List, sym, ap, subst, ◌∙◌, Err, Ok, IfOk, IfErr, ◌≡◌, ◌⊎◌, inr, Vec, Global, arith}
use Rattle.std.proofs.lemmas.Result.{err_from_is_err_and, IfOk-weaker, IfErr-weaker}
use Rattle.rs_refusal.specs.declared.refusal.Refusal.TheVariants.{OutOfMemory}
use Rattle.rs_facts.specs.ConditionView.{condition_of}
use Rattle.rs_syntax.specs.declared.queries.Atom.{Atom}
use Rattle.rs_syntax.specs.View.{column_tree}
use Rattle.rs_syntax.specs.QueryView.{atom_tree, condition_tree}
use Rattle.rs_machine.specs.Checking.{condition_checked}
use Rattle.rs_checker.specs.Inner.{atoms_tree}
use Rattle.rs_checker.proofs.ConditionLaws.{chain_begins, chain_goes, chain_stops, chain_ends, chain_none, negated_is, bracketed_is, or_refused, is_none, is_some, compare_is, null_is, not_null_refused, not_null_done, negated_refused, bracketed_refused, negated_done, bracketed_done}
use Rattle.rs_checker.proofs.conditions.+conditions.Goals as goal

pub conjunction-loop-part-init : goal.conjunction-loop-part-init
conjunction-loop-part-init t c = chain_begins (map column_tree c.args.columns.now.items) atom_tree c.args.atoms.now c.new-parts.result.items c.new-parts.ensures.items

pub conjunction-returns-in_err-atom-clause-refused : goal.conjunction-returns-in_err-atom-clause-refused
conjunction-returns-in_err-atom-clause-refused t c =
    let p = err_from_is_err_and c.from_residual.result c.from_residual.ensures.1 in
    rw (p.1, p.2) (or_refused (λ e. (chain_stops (map column_tree c.args.columns.now.items) atom_tree c.args.atoms.now c.loop-part.part-index c.loop-part.parts.items c.part-item.result c.in_err-atom.field-0.0 c.loop-part.invariant c.loop-part-test.true c.part-item.is e).0) c.in_err-atom.ensures.refused)

pub conjunction-loop-part-preserved : goal.conjunction-loop-part-preserved
conjunction-loop-part-preserved t c = chain_goes (map column_tree c.args.columns.now.items) atom_tree c.args.atoms.now c.loop-part.part-index c.loop-part.parts.items c.push.new.self.items c.part-item.result c.in_ok-atom.field-0 c.loop-part.invariant c.loop-part-test.true c.part-item.is c.in_ok-atom.ensures.ok c.in_ok-push.ensures.items

pub conjunction-returns-then-is_empty-clause-ok : goal.conjunction-returns-then-is_empty-clause-ok
conjunction-returns-then-is_empty-clause-ok t c =
    let none = chain_none (map column_tree c.args.columns.now.items) atom_tree c.args.atoms.now c.loop-part.part-index c.loop-part.parts.items c.loop-part.invariant c.loop-part-test.false (is_none c.is_empty.result _ _ c.is_empty.ensures c.if-is_empty.true c.loop-part.parts.ok.0) in
    subst (λ (atoms : List Atom). IfOk c.unnamed.result (λ checked. condition_checked (map column_tree c.args.columns.now.items) (atoms_tree atoms) ≡ Ok (condition_of checked))) (sym none) c.unnamed.ensures.ok

pub conjunction-returns-then-is_empty-clause-refused : goal.conjunction-returns-then-is_empty-clause-refused
conjunction-returns-then-is_empty-clause-refused t c =
    let none = chain_none (map column_tree c.args.columns.now.items) atom_tree c.args.atoms.now c.loop-part.part-index c.loop-part.parts.items c.loop-part.invariant c.loop-part-test.false (is_none c.is_empty.result _ _ c.is_empty.ensures c.if-is_empty.true c.loop-part.parts.ok.0) in
    subst (λ (atoms : List Atom). IfErr c.unnamed.result (λ refusal. (refusal ≡ OutOfMemory) ⊎ (condition_checked (map column_tree c.args.columns.now.items) (atoms_tree atoms) ≡ Err refusal))) (sym none)
    (IfErr-weaker c.unnamed.result _ _ (λ refusal e. inr e) c.unnamed.ensures.refused)

pub conjunction-returns-clause-ok : goal.conjunction-returns-clause-ok
conjunction-returns-clause-ok t c =
    (chain_ends (map column_tree c.args.columns.now.items) atom_tree c.args.atoms.now c.loop-part.part-index c.loop-part.parts.items c.loop-part.invariant c.loop-part-test.false (omega arith) (is_some c.is_empty.result _ _ c.is_empty.ensures c.if-is_empty.false c.loop-part.parts.ok.0)).0
    ∙ ap Ok (sym c.all_of.ensures)

pub disjunction-loop-atoms-init : goal.disjunction-loop-atoms-init
disjunction-loop-atoms-init t c = chain_begins (map column_tree c.args.columns.now.items) (λ atoms. atoms_tree atoms.items) c.args.condition.now c.new-parts.result.items c.new-parts.ensures.items

pub disjunction-returns-in_err-conjunction-clause-refused : goal.disjunction-returns-in_err-conjunction-clause-refused
disjunction-returns-in_err-conjunction-clause-refused t c =
    let p = err_from_is_err_and c.from_residual.result c.from_residual.ensures.1 in
    rw (p.1, p.2) (or_refused (λ e. (chain_stops (map column_tree c.args.columns.now.items) (λ atoms. atoms_tree atoms.items) c.args.condition.now c.loop-atoms.atoms-index c.loop-atoms.parts.items c.atoms-item.result c.in_err-conjunction.field-0.0 c.loop-atoms.invariant c.loop-atoms-test.true c.atoms-item.is
    (ap (λ zs. condition_checked (map column_tree c.args.columns.now.items) (atoms_tree zs)) (sym c.as_slice.ensures.value) ∙ e)).1) c.in_err-conjunction.ensures.refused)

pub disjunction-loop-atoms-preserved : goal.disjunction-loop-atoms-preserved
disjunction-loop-atoms-preserved t c = chain_goes (map column_tree c.args.columns.now.items) (λ atoms. atoms_tree atoms.items) c.args.condition.now c.loop-atoms.atoms-index c.loop-atoms.parts.items c.push.new.self.items c.atoms-item.result c.in_ok-conjunction.field-0 c.loop-atoms.invariant c.loop-atoms-test.true c.atoms-item.is
    (ap (λ zs. condition_checked (map column_tree c.args.columns.now.items) (atoms_tree zs)) (sym c.as_slice.ensures.value) ∙ c.in_ok-conjunction.ensures.ok) c.in_ok-push.ensures.items

pub disjunction-returns-then-is_empty-clause-ok : goal.disjunction-returns-then-is_empty-clause-ok
disjunction-returns-then-is_empty-clause-ok t c =
    let none = chain_none (map column_tree c.args.columns.now.items) (λ atoms. atoms_tree atoms.items) c.args.condition.now c.loop-atoms.atoms-index c.loop-atoms.parts.items c.loop-atoms.invariant c.loop-atoms-test.false (is_none c.is_empty.result _ _ c.is_empty.ensures c.if-is_empty.true c.loop-atoms.parts.ok.0) in
    subst (λ (conjunctions : List (Vec Atom Global)). IfOk c.unnamed.result (λ checked. condition_checked (map column_tree c.args.columns.now.items) (condition_tree conjunctions) ≡ Ok (condition_of checked))) (sym none) c.unnamed.ensures.ok

pub disjunction-returns-then-is_empty-clause-refused : goal.disjunction-returns-then-is_empty-clause-refused
disjunction-returns-then-is_empty-clause-refused t c =
    let none = chain_none (map column_tree c.args.columns.now.items) (λ atoms. atoms_tree atoms.items) c.args.condition.now c.loop-atoms.atoms-index c.loop-atoms.parts.items c.loop-atoms.invariant c.loop-atoms-test.false (is_none c.is_empty.result _ _ c.is_empty.ensures c.if-is_empty.true c.loop-atoms.parts.ok.0) in
    subst (λ (conjunctions : List (Vec Atom Global)). IfErr c.unnamed.result (λ refusal. (refusal ≡ OutOfMemory) ⊎ (condition_checked (map column_tree c.args.columns.now.items) (condition_tree conjunctions) ≡ Err refusal))) (sym none)
    (IfErr-weaker c.unnamed.result _ _ (λ refusal e. inr e) c.unnamed.ensures.refused)

pub disjunction-returns-clause-ok : goal.disjunction-returns-clause-ok
disjunction-returns-clause-ok t c =
    (chain_ends (map column_tree c.args.columns.now.items) (λ atoms. atoms_tree atoms.items) c.args.condition.now c.loop-atoms.atoms-index c.loop-atoms.parts.items c.loop-atoms.invariant c.loop-atoms-test.false (omega arith) (is_some c.is_empty.result _ _ c.is_empty.ensures c.if-is_empty.false c.loop-atoms.parts.ok.0)).1
    ∙ ap Ok (sym c.any_of.ensures)

pub atom-returns-in-Compare-clause-ok : goal.atom-returns-in-Compare-clause-ok
atom-returns-in-Compare-clause-ok t c =
    let e = ap atom_tree c.in-Compare.is ∙ compare_is c.in-Compare.name c.in-Compare.comparison c.in-Compare.operand in
    subst (λ tree. IfOk c.compared.result (λ checked. condition_checked (map column_tree c.args.columns.now.items) tree ≡ Ok (condition_of checked))) (sym e) c.compared.ensures.ok

pub atom-returns-in-Compare-clause-refused : goal.atom-returns-in-Compare-clause-refused
atom-returns-in-Compare-clause-refused t c =
    let e = ap atom_tree c.in-Compare.is ∙ compare_is c.in-Compare.name c.in-Compare.comparison c.in-Compare.operand in
    subst (λ tree. IfErr c.compared.result (λ refusal. (refusal ≡ OutOfMemory) ⊎ (condition_checked (map column_tree c.args.columns.now.items) tree ≡ Err refusal))) (sym e) c.compared.ensures.refused

pub atom-returns-in-IsNull-clause-ok : goal.atom-returns-in-IsNull-clause-ok
atom-returns-in-IsNull-clause-ok t c =
    let e = ap atom_tree c.in-IsNull.is ∙ null_is c.in-IsNull.name in
    subst (λ tree. IfOk c.tests_null.result (λ checked. condition_checked (map column_tree c.args.columns.now.items) tree ≡ Ok (condition_of checked))) (sym e) c.tests_null.ensures.ok

pub atom-returns-in-IsNull-clause-refused : goal.atom-returns-in-IsNull-clause-refused
atom-returns-in-IsNull-clause-refused t c =
    let e = ap atom_tree c.in-IsNull.is ∙ null_is c.in-IsNull.name in
    subst (λ tree. IfErr c.tests_null.result (λ refusal. (refusal ≡ OutOfMemory) ⊎ (condition_checked (map column_tree c.args.columns.now.items) tree ≡ Err refusal))) (sym e)
    (IfErr-weaker c.tests_null.result _ _ (λ refusal h. inr h) c.tests_null.ensures.refused)

pub atom-returns-in_err-tests_null-in-IsNotNull-clause-refused : goal.atom-returns-in_err-tests_null-in-IsNotNull-clause-refused
atom-returns-in_err-tests_null-in-IsNotNull-clause-refused t c =
    let p = err_from_is_err_and c.from_residual.result c.from_residual.ensures.1 in
    rw (p.1, p.2) (inr (not_null_refused (map column_tree c.args.columns.now.items) c.in-IsNotNull.name (atom_tree c.args.atom.now) (ap atom_tree c.in-IsNotNull.is) c.in_err-tests_null-in-IsNotNull.field-0.0 c.in_err-tests_null-in-IsNotNull.ensures.refused))

pub atom-returns-in_ok-tests_null-in-IsNotNull-clause-ok : goal.atom-returns-in_ok-tests_null-in-IsNotNull-clause-ok
atom-returns-in_ok-tests_null-in-IsNotNull-clause-ok t c =
    IfOk-weaker c.negated.result _ _ (λ checked e. not_null_done (map column_tree c.args.columns.now.items) c.in-IsNotNull.name (atom_tree c.args.atom.now) (ap atom_tree c.in-IsNotNull.is) _ c.in_ok-tests_null-in-IsNotNull.ensures.ok ∙ ap Ok (sym e)) c.negated.ensures.ok

pub atom-returns-in_err-disjunction-in-Negated-clause-refused : goal.atom-returns-in_err-disjunction-in-Negated-clause-refused
atom-returns-in_err-disjunction-in-Negated-clause-refused t c =
    let p = err_from_is_err_and c.from_residual-in_err-disjunction-in-Negated.result c.from_residual-in_err-disjunction-in-Negated.ensures.1 in
    rw (p.1, p.2) (or_refused (λ e. negated_refused (map column_tree c.args.columns.now.items) (atom_tree c.args.atom.now) c.in-Negated.condition.items _ (ap atom_tree c.in-Negated.is ∙ negated_is c.in-Negated.condition)
    (ap (λ zs. condition_checked (map column_tree c.args.columns.now.items) (condition_tree zs)) (sym c.as_slice.ensures.value) ∙ e)) c.in_err-disjunction-in-Negated.ensures.refused)

pub atom-returns-in_err-disjunction-in-Bracketed-clause-refused : goal.atom-returns-in_err-disjunction-in-Bracketed-clause-refused
atom-returns-in_err-disjunction-in-Bracketed-clause-refused t c =
    let p = err_from_is_err_and c.from_residual-in_err-disjunction-in-Bracketed.result c.from_residual-in_err-disjunction-in-Bracketed.ensures.1 in
    rw (p.1, p.2) (or_refused (λ e. bracketed_refused (map column_tree c.args.columns.now.items) (atom_tree c.args.atom.now) c.in-Bracketed.condition.items _ (ap atom_tree c.in-Bracketed.is ∙ bracketed_is c.in-Bracketed.condition)
    (ap (λ zs. condition_checked (map column_tree c.args.columns.now.items) (condition_tree zs)) (sym c.as_slice-in-Bracketed.ensures.value) ∙ e)) c.in_err-disjunction-in-Bracketed.ensures.refused)

pub atom-returns-in_ok-disjunction-in-Negated-clause-ok : goal.atom-returns-in_ok-disjunction-in-Negated-clause-ok
atom-returns-in_ok-disjunction-in-Negated-clause-ok t c =
    IfOk-weaker c.negated-in-Negated.result _ _ (λ checked e. negated_done (map column_tree c.args.columns.now.items) (atom_tree c.args.atom.now) c.in-Negated.condition.items _ (ap atom_tree c.in-Negated.is ∙ negated_is c.in-Negated.condition)
    (ap (λ zs. condition_checked (map column_tree c.args.columns.now.items) (condition_tree zs)) (sym c.as_slice.ensures.value) ∙ c.in_ok-disjunction-in-Negated.ensures.ok) ∙ ap Ok (sym e)) c.negated-in-Negated.ensures.ok

pub atom-returns-in_ok-disjunction-in-Bracketed-clause-ok : goal.atom-returns-in_ok-disjunction-in-Bracketed-clause-ok
atom-returns-in_ok-disjunction-in-Bracketed-clause-ok t c =
    IfOk-weaker c.bracketed.result _ _ (λ checked e. bracketed_done (map column_tree c.args.columns.now.items) (atom_tree c.args.atom.now) c.in-Bracketed.condition.items _ (ap atom_tree c.in-Bracketed.is ∙ bracketed_is c.in-Bracketed.condition)
    (ap (λ zs. condition_checked (map column_tree c.args.columns.now.items) (condition_tree zs)) (sym c.as_slice-in-Bracketed.ensures.value) ∙ c.in_ok-disjunction-in-Bracketed.ensures.ok) ∙ ap Ok (sym e)) c.bracketed.ensures.ok
