use Rattle.std.proofs.Common.{◌+◌, List, take, sym, subst, arith}
use Rattle.std.specs.Prelude.{Vec}
use Rattle.std.specs.declared.alloc.Global.{Global}
use Rattle.rs_syntax.specs.declared.queries.Atom.{Atom}
use Rattle.std.proofs.lemmas.List.{take_all}
use Rattle.std.proofs.lemmas.Result.{err_from_is_err_and}
use Rattle.rs_meaning.proofs.SayingLaws.{Each, SaysPart, SaysParts, conjunction-some, conjunction-told, conjunction-more, conjunction-each, conjunction-none, conjunction-length, condition-some, condition-told, condition-more, condition-each, condition-none, condition-length, negation-told, negation-none, negation-says, negation-length, bracket-told, bracket-none, bracket-says, bracket-length}
use Rattle.rs_meaning.proofs.said_conditions.+saying.Goals as goal

pub atom_said-condition_said-requires : goal.atom_said-condition_said-requires
atom_said-condition_said-requires t c = (omega (arith, negation-length c.args.line.now c.args.written.now c.in-Negated.condition c.deref.result.now c.in-Negated.is c.deref.ensures.value), negation-told c.args.line.now c.args.written.now c.in-Negated.condition c.deref.result.now c.in-Negated.is c.deref.ensures.value c.requires.1.1)

pub atom_said-returns-in_err-condition_said-in-Negated-clause-err : goal.atom_said-returns-in_err-condition_said-in-Negated-clause-err
atom_said-returns-in_err-condition_said-in-Negated-clause-err t c =
    let p = err_from_is_err_and c.from_residual-in_err-condition_said-in-Negated.result c.from_residual-in_err-condition_said-in-Negated.ensures.1 in
    rw (p.1, p.2) (negation-none c.args.line.now c.args.written.now c.in-Negated.condition c.deref.result.now c.in-Negated.is c.deref.ensures.value _ c.in_err-condition_said-in-Negated.ensures.err)

pub atom_said-returns-in_ok-condition_said-in-Negated-clause-ok : goal.atom_said-returns-in_ok-condition_said-in-Negated-clause-ok
atom_said-returns-in_ok-condition_said-in-Negated-clause-ok t c = negation-says c.args.line.now c.args.written.now c.in-Negated.condition c.deref.result.now c.in-Negated.is c.deref.ensures.value c.in_ok-condition_said-in-Negated.field-0 c.in_ok-condition_said-in-Negated.ensures.ok

pub atom_said-condition_said-requires-in-Bracketed : goal.atom_said-condition_said-requires-in-Bracketed
atom_said-condition_said-requires-in-Bracketed t c = (omega (arith, bracket-length c.args.line.now c.args.written.now c.in-Bracketed.condition c.deref-in-Bracketed.result.now c.in-Bracketed.is c.deref-in-Bracketed.ensures.value), bracket-told c.args.line.now c.args.written.now c.in-Bracketed.condition c.deref-in-Bracketed.result.now c.in-Bracketed.is c.deref-in-Bracketed.ensures.value c.requires.1.1)

pub atom_said-returns-in_err-condition_said-in-Bracketed-clause-err : goal.atom_said-returns-in_err-condition_said-in-Bracketed-clause-err
atom_said-returns-in_err-condition_said-in-Bracketed-clause-err t c =
    let p = err_from_is_err_and c.from_residual-in_err-condition_said-in-Bracketed.result c.from_residual-in_err-condition_said-in-Bracketed.ensures.1 in
    rw (p.1, p.2) (bracket-none c.args.line.now c.args.written.now c.in-Bracketed.condition c.deref-in-Bracketed.result.now c.in-Bracketed.is c.deref-in-Bracketed.ensures.value _ c.in_err-condition_said-in-Bracketed.ensures.err)

pub atom_said-returns-in_ok-condition_said-in-Bracketed-clause-ok : goal.atom_said-returns-in_ok-condition_said-in-Bracketed-clause-ok
atom_said-returns-in_ok-condition_said-in-Bracketed-clause-ok t c = bracket-says c.args.line.now c.args.written.now c.in-Bracketed.condition c.deref-in-Bracketed.result.now c.in-Bracketed.is c.deref-in-Bracketed.ensures.value c.in_ok-condition_said-in-Bracketed.field-0 c.in_ok-condition_said-in-Bracketed.ensures.ok

pub conjunction_said-atom_said-requires : goal.conjunction_said-atom_said-requires
conjunction_said-atom_said-requires t c = (omega (arith, conjunction-length c.args.written.now c.loop-part.part-index c.part-item.result c.loop-part-test.true c.part-item.is), conjunction-told c.args.line.now c.args.written.now c.loop-part.part-index c.part-item.result c.loop-part-test.true c.part-item.is c.requires.1.1)

pub conjunction_said-returns-in_err-atom-clause-err : goal.conjunction_said-returns-in_err-atom-clause-err
conjunction_said-returns-in_err-atom-clause-err t c =
    let p = err_from_is_err_and c.from_residual.result c.from_residual.ensures.1 in
    rw (p.1, p.2) (conjunction-none c.args.line.now c.args.written.now c.loop-part.part-index c.part-item.result _ c.loop-part-test.true c.part-item.is c.in_err-atom.ensures.err)

pub conjunction_said-loop-part-preserved : goal.conjunction_said-loop-part-preserved
conjunction_said-loop-part-preserved t c =
    let pushed = c.in_ok-push.ensures.items in
    subst (λ items. Each (SaysPart c.args.line.now) (take (c.loop-part.part-index + 1) c.args.written.now) items) (sym {A = List Atom} pushed)
    (conjunction-more c.args.line.now c.args.written.now c.loop-part.part-index c.part-item.result c.loop-part.atoms.items c.in_ok-atom.atom c.loop-part-test.true c.part-item.is c.loop-part.invariant c.in_ok-atom.ensures.ok)

pub conjunction_said-returns-clause-ok : goal.conjunction_said-returns-clause-ok
conjunction_said-returns-clause-ok t c =
    let whole = take_all c.loop-part.part-index c.args.written.now (omega (arith, c.loop-part-test.false)) in
    conjunction-each c.args.line.now c.args.written.now c.loop-part.atoms.items (conjunction-some c.args.line.now c.args.written.now c.requires.1.1)
    (subst (λ ws. Each (SaysPart c.args.line.now) ws c.loop-part.atoms.items) whole c.loop-part.invariant)

pub condition_said-conjunction_said-requires : goal.condition_said-conjunction_said-requires
condition_said-conjunction_said-requires t c = (omega (arith, condition-length c.args.written.now c.loop-part.part-index c.part-item.result c.deref.result.now c.loop-part-test.true c.part-item.is c.deref.ensures.value), condition-told c.args.line.now c.args.written.now c.loop-part.part-index c.part-item.result c.deref.result.now c.loop-part-test.true c.part-item.is c.deref.ensures.value c.requires.1.1)

pub condition_said-returns-in_err-conjunction-clause-err : goal.condition_said-returns-in_err-conjunction-clause-err
condition_said-returns-in_err-conjunction-clause-err t c =
    let p = err_from_is_err_and c.from_residual.result c.from_residual.ensures.1 in
    rw (p.1, p.2) (condition-none c.args.line.now c.args.written.now c.loop-part.part-index c.part-item.result c.deref.result.now _ c.loop-part-test.true c.part-item.is c.deref.ensures.value c.in_err-conjunction.ensures.err)

pub condition_said-loop-part-preserved : goal.condition_said-loop-part-preserved
condition_said-loop-part-preserved t c =
    let pushed = c.in_ok-push.ensures.items in
    subst (λ items. Each (SaysParts c.args.line.now) (take (c.loop-part.part-index + 1) c.args.written.now) items) (sym {A = List (Vec Atom Global)} pushed)
    (condition-more c.args.line.now c.args.written.now c.loop-part.part-index c.part-item.result c.deref.result.now c.loop-part.conjunctions.items c.in_ok-conjunction.conjunction c.loop-part-test.true c.part-item.is c.deref.ensures.value c.loop-part.invariant c.in_ok-conjunction.ensures.ok)

pub condition_said-returns-clause-ok : goal.condition_said-returns-clause-ok
condition_said-returns-clause-ok t c =
    let whole = take_all c.loop-part.part-index c.args.written.now (omega (arith, c.loop-part-test.false)) in
    condition-each c.args.line.now c.args.written.now c.loop-part.conjunctions.items (condition-some c.args.line.now c.args.written.now c.requires.1.1)
    (subst (λ ws. Each (SaysParts c.args.line.now) ws c.loop-part.conjunctions.items) whole c.loop-part.invariant)
