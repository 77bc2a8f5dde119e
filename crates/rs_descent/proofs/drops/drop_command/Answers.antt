use Rattle.std.proofs.lemmas.Result.{err_from_is_err_and}
use Rattle.rs_lexer.specs.Lexis.{kinds_of}
use Rattle.rs_grammar.specs.Grammar.{drop_form, drop_referent_form}
use Rattle.rs_descent.specs.Reading.{is_done, is_fail, skips}
use Rattle.rs_descent.proofs.Steps.{takes_as, misses, RunsTo-after}
use Rattle.rs_descent.proofs.DropSteps.{drops_object, drops_no_object}
use Rattle.rs_descent.proofs.drops.drop_command.Goals as goal

pub returns-in_err-name-clause-runs : goal.returns-in_err-name-clause-runs
returns-in_err-name-clause-runs c =
    let p = err_from_is_err_and c.from_residual.result c.from_residual.ensures.1 in
    rw (p.1, p.2, c.in-Some.ensures.found) (drops_object c.in-Some.kind (kinds_of c.in-Some.rest.now) _ (misses c.in_err-name.ensures.found))

pub returns-in-Some-clause-runs : goal.returns-in-Some-clause-runs
returns-in-Some-clause-runs c = rw c.in-Some.ensures.found (drops_object c.in-Some.kind (kinds_of c.in-Some.rest.now) _ (takes_as c.in_ok-name.ensures.found is_done))

pub returns-in-Some-mark-clause-runs : goal.returns-in-Some-mark-clause-runs
returns-in-Some-mark-clause-runs c =
    RunsTo-after drop_referent_form drop_form c.args.tokens.now c.in-Some-mark.rest.now c.drop_referent.result
    (λ outcome run. drops_no_object (kinds_of c.args.tokens.now) outcome c.in_default.ensures.found (takes_as c.in-Some-mark.ensures.found run))
    c.drop_referent.ensures.runs

pub returns-in-None-clause-runs : goal.returns-in-None-clause-runs
returns-in-None-clause-runs c = drops_no_object (kinds_of c.args.tokens.now) _ c.in_default.ensures.found (skips c.in-None.ensures.found is_fail)
