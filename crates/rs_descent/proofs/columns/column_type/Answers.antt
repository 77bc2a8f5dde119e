use Rattle.std.proofs.lemmas.Result.{err_from_is_err_and}
use Rattle.rs_grammar.specs.Grammar.{rules}
use Rattle.rs_descent.specs.Reading.{is_done, is_fail, skips}
use Rattle.rs_descent.proofs.Steps.{takes_as, misses}
use Rattle.rs_descent.proofs.columns.column_type.Goals as goal

pub returns-in-Some-clause-runs : goal.returns-in-Some-clause-runs
returns-in-Some-clause-runs c = takes_as c.in-Some.ensures.found is_done

pub returns-in_err-rest-clause-runs : goal.returns-in_err-rest-clause-runs
unfolding rules
returns-in_err-rest-clause-runs c =
    let p = err_from_is_err_and c.from_residual.result c.from_residual.ensures.1 in
    rw (p.1, p.2) (skips c.in_default.ensures.found (misses c.in_err-rest.ensures.found))

pub returns-in_err-rest-2-clause-runs : goal.returns-in_err-rest-2-clause-runs
unfolding rules
returns-in_err-rest-2-clause-runs c =
    let p = err_from_is_err_and c.from_residual-in_err-rest-2.result c.from_residual-in_err-rest-2.ensures.1 in
    rw (p.1, p.2) (skips c.in_default.ensures.found (takes_as c.in_ok-rest.ensures.found (misses c.in_err-rest-2.ensures.found)))

pub returns-in_err-most-clause-runs : goal.returns-in_err-most-clause-runs
unfolding rules
returns-in_err-most-clause-runs c =
    let p = err_from_is_err_and c.from_residual-in_err-most.result c.from_residual-in_err-most.ensures.1 in
    rw (p.1, p.2) (skips c.in_default.ensures.found (takes_as c.in_ok-rest.ensures.found (takes_as c.in_ok-rest-2.ensures.found (misses c.in_err-most.ensures.found))))

pub returns-in-Some-mark-clause-runs : goal.returns-in-Some-mark-clause-runs
unfolding rules
returns-in-Some-mark-clause-runs c = skips c.in_default.ensures.found (takes_as c.in_ok-rest.ensures.found (takes_as c.in_ok-rest-2.ensures.found (takes_as c.in_ok-most.ensures.found (takes_as c.in-Some-mark.ensures.found is_done))))

pub returns-in-None-clause-runs : goal.returns-in-None-clause-runs
unfolding rules
returns-in-None-clause-runs c = skips c.in_default.ensures.found (takes_as c.in_ok-rest.ensures.found (takes_as c.in_ok-rest-2.ensures.found (takes_as c.in_ok-most.ensures.found (skips c.in-None.ensures.found is_fail))))
