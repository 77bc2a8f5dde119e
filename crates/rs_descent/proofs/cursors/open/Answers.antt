use Rattle.std.proofs.lemmas.Result.{err_from_is_err_and}
use Rattle.rs_grammar.specs.Grammar.{rules}
use Rattle.rs_descent.specs.Reading.{through, stops_in}
use Rattle.rs_descent.proofs.Steps.{takes_as, misses}
use Rattle.rs_descent.proofs.cursors.open.Goals as goal

pub returns-in_err-cursor-clause-runs : goal.returns-in_err-cursor-clause-runs
unfolding rules
returns-in_err-cursor-clause-runs c =
    let p = err_from_is_err_and c.from_residual.result c.from_residual.ensures.1 in
    rw (p.1, p.2) (misses c.in_err-cursor.ensures.found)

pub returns-in_err-rest-clause-runs : goal.returns-in_err-rest-clause-runs
unfolding rules
returns-in_err-rest-clause-runs c =
    let p = err_from_is_err_and c.from_residual-in_err-rest.result c.from_residual-in_err-rest.ensures.1 in
    rw (p.1, p.2) (takes_as c.in_ok-cursor.ensures.found (misses c.in_err-rest.ensures.found))

pub returns-in_err-query-clause-runs : goal.returns-in_err-query-clause-runs
unfolding rules
returns-in_err-query-clause-runs c =
    let p = err_from_is_err_and c.from_residual-in_err-query.result c.from_residual-in_err-query.ensures.1 in
    rw (p.1, p.2) (takes_as c.in_ok-cursor.ensures.found (takes_as c.in_ok-rest.ensures.found (stops_in c.in_err-query.ensures.runs)))

pub returns-in_err-method-clause-runs : goal.returns-in_err-method-clause-runs
unfolding rules
returns-in_err-method-clause-runs c =
    let p = err_from_is_err_and c.from_residual-in_err-method.result c.from_residual-in_err-method.ensures.1 in
    rw (p.1, p.2) (takes_as c.in_ok-cursor.ensures.found (takes_as c.in_ok-rest.ensures.found (through c.in_ok-query.ensures.runs c.in_err-method.ensures.runs)))

pub returns-clause-runs : goal.returns-clause-runs
unfolding rules
returns-clause-runs c = takes_as c.in_ok-cursor.ensures.found (takes_as c.in_ok-rest.ensures.found (through c.in_ok-query.ensures.runs c.in_ok-method.ensures.runs))
