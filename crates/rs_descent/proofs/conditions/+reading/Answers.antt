use Rattle.std.proofs.Common.{◌≡◌, ◌++◌, List, refl, sym, subst, arith}
use Rattle.std.specs.Prelude.{Vec}
use Rattle.std.specs.declared.alloc.Global.{Global}
use Rattle.rs_syntax.specs.declared.written.WrittenAtom.{WrittenAtom}
use Rattle.rs_grammar.specs.declared.kind.TokenKind.TheVariants as kinds
use Rattle.rs_grammar.specs.Grammar.{rules, atom, conjunction, condition, fail, pick, need, inside_form, test_form}
use Rattle.rs_syntax.specs.Written.{conjunction_lexemes, condition_lexemes, lexemes_of}
use Rattle.rs_syntax.specs.WrittenView.{conjunction_syntax, condition_syntax}
use Rattle.rs_descent.proofs.ConditionSteps.{part_lexemes, parts_lexemes, bracket-spelled, negation-spelled, conjunction-read, condition-read}
use Rattle.std.proofs.lemmas.Result.{err_from_is_err_and}
use Rattle.rs_descent.specs.Reading.{is_done, is_fail, skips, through, stops_in, gives_up}
use Rattle.rs_descent.proofs.Steps.{takes_as, misses, RunsTo-takes, RunsTo-skips, IsListSoFar, list-stops, list-next, list-end, list-within}
use Rattle.rs_descent.proofs.conditions.+reading.Goals as goal

pub inside-returns-in_err-condition-clause-runs : goal.inside-returns-in_err-condition-clause-runs
unfolding rules
inside-returns-in_err-condition-clause-runs t c =
    let p = err_from_is_err_and c.from_residual.result c.from_residual.ensures.1 in
    rw (p.1, p.2) (stops_in c.in_err-condition.ensures.runs)

pub inside-returns-in-Some-clause-runs : goal.inside-returns-in-Some-clause-runs
unfolding rules
inside-returns-in-Some-clause-runs t c = through c.in_ok-condition.ensures.runs (takes_as c.in-Some.ensures.found is_done)

pub inside-returns-in-None-clause-runs : goal.inside-returns-in-None-clause-runs
unfolding rules
inside-returns-in-None-clause-runs t c = through c.in_ok-condition.ensures.runs (skips c.in-None.ensures.found is_fail)

pub atom-returns-in_err-condition-clause-runs : goal.atom-returns-in_err-condition-clause-runs
atom-returns-in_err-condition-clause-runs t c =
    let p = err_from_is_err_and c.from_residual.result c.from_residual.ensures.1 in
    rw (p.1, p.2) (takes_as c.in-Some.ensures.found (c.in_err-condition.ensures.runs))

pub atom-returns-in-Some-clause-runs : goal.atom-returns-in-Some-clause-runs
atom-returns-in-Some-clause-runs t c = takes_as c.in-Some.ensures.found (c.in_ok-condition.ensures.runs)

pub atom-returns-in-Some-clause-spelled : goal.atom-returns-in-Some-clause-spelled
atom-returns-in-Some-clause-spelled t c = bracket-spelled c.args.tokens.now c.in-Some.rest.now c.in_ok-condition.rest.now c.in_ok-condition.condition c.in-Some.ensures.spelled c.in_ok-condition.ensures.spelled

pub atom-returns-in_err-rest-clause-runs : goal.atom-returns-in_err-rest-clause-runs
atom-returns-in_err-rest-clause-runs t c =
    let p = err_from_is_err_and c.from_residual-in_err-rest.result c.from_residual-in_err-rest.ensures.1 in
    rw (p.1, p.2) (skips c.in_default.ensures.found (takes_as c.in-Some-mark.ensures.found (misses c.in_err-rest.ensures.found)))

pub atom-returns-in_err-condition-2-clause-runs : goal.atom-returns-in_err-condition-2-clause-runs
atom-returns-in_err-condition-2-clause-runs t c =
    let p = err_from_is_err_and c.from_residual-in_err-condition-2.result c.from_residual-in_err-condition-2.ensures.1 in
    rw (p.1, p.2) (skips c.in_default.ensures.found (takes_as c.in-Some-mark.ensures.found (takes_as c.in_ok-rest.ensures.found (c.in_err-condition-2.ensures.runs))))

pub atom-returns-in-Some-mark-clause-runs : goal.atom-returns-in-Some-mark-clause-runs
atom-returns-in-Some-mark-clause-runs t c = skips c.in_default.ensures.found (takes_as c.in-Some-mark.ensures.found (takes_as c.in_ok-rest.ensures.found (c.in_ok-condition-2.ensures.runs)))

pub atom-returns-in-Some-mark-clause-spelled : goal.atom-returns-in-Some-mark-clause-spelled
atom-returns-in-Some-mark-clause-spelled t c = negation-spelled c.args.tokens.now c.in-Some-mark.rest.now c.in_ok-rest.rest.now c.in_ok-condition-2.rest.now c.in_ok-condition-2.condition c.in-Some-mark.ensures.spelled c.in_ok-rest.ensures.spelled c.in_ok-condition-2.ensures.spelled

pub atom-returns-in-Some-text-clause-runs : goal.atom-returns-in-Some-text-clause-runs
atom-returns-in-Some-text-clause-runs t c =
    RunsTo-skips kinds.LeftParen inside_form (pick kinds.Not (need kinds.LeftParen inside_form) (need kinds.Name test_form)) c.args.tokens.now c.test.result c.in_default.ensures.found
    (RunsTo-skips kinds.Not (need kinds.LeftParen inside_form) (need kinds.Name test_form) c.args.tokens.now c.test.result c.in_default-mark.ensures.found
    (RunsTo-takes kinds.Name test_form fail c.args.tokens.now c.in-Some-text.rest.now c.test.result c.in-Some-text.ensures.found c.test.ensures.runs))

pub atom-returns-in-None-clause-runs : goal.atom-returns-in-None-clause-runs
atom-returns-in-None-clause-runs t c = skips c.in_default.ensures.found (skips c.in_default-mark.ensures.found (skips c.in-None.ensures.found is_fail))

pub conjunction-atom-requires : goal.conjunction-atom-requires
conjunction-atom-requires t c = (omega (arith, list-within kinds.And (rules conjunction) part_lexemes c.args.tokens.now c.loop-atoms.rest.now c.loop-atoms.atoms.items c.loop-atoms.invariant), tt)

pub conjunction-returns-in_err-atom-clause-runs : goal.conjunction-returns-in_err-atom-clause-runs
unfolding rules
conjunction-returns-in_err-atom-clause-runs t c =
    let p = err_from_is_err_and c.from_residual.result c.from_residual.ensures.1 in
    rw (p.1, p.2) (list-stops kinds.And atom conjunction part_lexemes refl c.args.tokens.now c.loop-atoms.rest.now c.loop-atoms.atoms.items _ c.loop-atoms.invariant c.in_err-atom.ensures.runs)

pub conjunction-returns-in_err-push-clause-runs : goal.conjunction-returns-in_err-push-clause-runs
conjunction-returns-in_err-push-clause-runs t c =
    let p = err_from_is_err_and c.from_residual-in_err-push.result c.from_residual-in_err-push.ensures.1 in
    rw (p.1, p.2) (gives_up)

pub conjunction-loop-atoms-preserved : goal.conjunction-loop-atoms-preserved
unfolding rules
conjunction-loop-atoms-preserved t c =
    let pushed = c.in_ok-push.ensures.items in
    subst (λ items. IsListSoFar kinds.And (rules conjunction) part_lexemes c.args.tokens.now items c.in-Some.next.now) (sym {A = List WrittenAtom} pushed)
    (list-next kinds.And atom conjunction part_lexemes refl c.args.tokens.now c.loop-atoms.rest.now c.in_ok-atom.behind.now c.in-Some.next.now c.loop-atoms.atoms.items c.in_ok-atom.atom c.loop-atoms.invariant c.in_ok-atom.ensures.runs c.in-Some.ensures.found c.in_ok-atom.ensures.spelled c.in-Some.ensures.spelled)

pub conjunction-returns-in-None-clause-runs : goal.conjunction-returns-in-None-clause-runs
unfolding rules
conjunction-returns-in-None-clause-runs t c = list-end kinds.And atom conjunction part_lexemes refl c.args.tokens.now c.loop-atoms.rest.now c.in_ok-atom.behind.now c.loop-atoms.atoms.items c.in_ok-atom.atom c.loop-atoms.invariant c.in_ok-atom.ensures.runs c.in-None.ensures.found

pub conjunction-returns-in-None-clause-spelled : goal.conjunction-returns-in-None-clause-spelled
conjunction-returns-in-None-clause-spelled t c =
    let pushed = c.in_ok-push.ensures.items in
    subst (λ items. lexemes_of c.args.tokens.now ≡ conjunction_lexemes (conjunction_syntax items) ++ lexemes_of c.in_ok-atom.behind.now) (sym {A = List WrittenAtom} pushed)
    (conjunction-read c.args.tokens.now c.loop-atoms.rest.now c.in_ok-atom.behind.now c.loop-atoms.atoms.items c.in_ok-atom.atom c.loop-atoms.invariant c.in_ok-atom.ensures.spelled)

pub conjunction-returns-in-None-clause-shorter : goal.conjunction-returns-in-None-clause-shorter
conjunction-returns-in-None-clause-shorter t c =
    let within = list-within kinds.And (rules conjunction) part_lexemes c.args.tokens.now c.loop-atoms.rest.now c.loop-atoms.atoms.items c.loop-atoms.invariant in
    omega (arith, c.in_ok-atom.ensures.shorter)

pub condition-conjunction-requires : goal.condition-conjunction-requires
condition-conjunction-requires t c = (omega (arith, list-within kinds.Or (rules condition) parts_lexemes c.args.tokens.now c.loop-conjunctions.rest.now c.loop-conjunctions.conjunctions.items c.loop-conjunctions.invariant), tt)

pub condition-returns-in_err-conjunction-clause-runs : goal.condition-returns-in_err-conjunction-clause-runs
unfolding rules
condition-returns-in_err-conjunction-clause-runs t c =
    let p = err_from_is_err_and c.from_residual.result c.from_residual.ensures.1 in
    rw (p.1, p.2) (list-stops kinds.Or conjunction condition parts_lexemes refl c.args.tokens.now c.loop-conjunctions.rest.now c.loop-conjunctions.conjunctions.items _ c.loop-conjunctions.invariant c.in_err-conjunction.ensures.runs)

pub condition-returns-in_err-push-clause-runs : goal.condition-returns-in_err-push-clause-runs
condition-returns-in_err-push-clause-runs t c =
    let p = err_from_is_err_and c.from_residual-in_err-push.result c.from_residual-in_err-push.ensures.1 in
    rw (p.1, p.2) (gives_up)

pub condition-loop-conjunctions-preserved : goal.condition-loop-conjunctions-preserved
unfolding rules
condition-loop-conjunctions-preserved t c =
    let pushed = c.in_ok-push.ensures.items in
    subst (λ items. IsListSoFar kinds.Or (rules condition) parts_lexemes c.args.tokens.now items c.in-Some.next.now) (sym {A = List (Vec WrittenAtom Global)} pushed)
    (list-next kinds.Or conjunction condition parts_lexemes refl c.args.tokens.now c.loop-conjunctions.rest.now c.in_ok-conjunction.behind.now c.in-Some.next.now c.loop-conjunctions.conjunctions.items c.in_ok-conjunction.conjunction c.loop-conjunctions.invariant c.in_ok-conjunction.ensures.runs c.in-Some.ensures.found c.in_ok-conjunction.ensures.spelled c.in-Some.ensures.spelled)

pub condition-returns-in-None-clause-runs : goal.condition-returns-in-None-clause-runs
unfolding rules
condition-returns-in-None-clause-runs t c = list-end kinds.Or conjunction condition parts_lexemes refl c.args.tokens.now c.loop-conjunctions.rest.now c.in_ok-conjunction.behind.now c.loop-conjunctions.conjunctions.items c.in_ok-conjunction.conjunction c.loop-conjunctions.invariant c.in_ok-conjunction.ensures.runs c.in-None.ensures.found

pub condition-returns-in-None-clause-spelled : goal.condition-returns-in-None-clause-spelled
condition-returns-in-None-clause-spelled t c =
    let pushed = c.in_ok-push.ensures.items in
    subst (λ items. lexemes_of c.args.tokens.now ≡ condition_lexemes (condition_syntax items) ++ lexemes_of c.in_ok-conjunction.behind.now) (sym {A = List (Vec WrittenAtom Global)} pushed)
    (condition-read c.args.tokens.now c.loop-conjunctions.rest.now c.in_ok-conjunction.behind.now c.loop-conjunctions.conjunctions.items c.in_ok-conjunction.conjunction c.loop-conjunctions.invariant c.in_ok-conjunction.ensures.spelled)

pub condition-returns-in-None-clause-shorter : goal.condition-returns-in-None-clause-shorter
condition-returns-in-None-clause-shorter t c =
    let within = list-within kinds.Or (rules condition) parts_lexemes c.args.tokens.now c.loop-conjunctions.rest.now c.loop-conjunctions.conjunctions.items c.loop-conjunctions.invariant in
    omega (arith, c.in_ok-conjunction.ensures.shorter)
