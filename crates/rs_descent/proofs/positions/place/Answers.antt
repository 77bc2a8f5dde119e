use Rattle.std.proofs.lemmas.Result.{err_from_is_err_and}
use Rattle.rs_grammar.specs.Grammar.{rules}
use Rattle.rs_descent.specs.Reading.{is_done, skips, through, stops_in}
use Rattle.rs_descent.proofs.Steps.{takes_as, misses}
use Rattle.rs_descent.proofs.positions.place.Goals as goal

pub returns-in_err-from-clause-runs : goal.returns-in_err-from-clause-runs
returns-in_err-from-clause-runs c =
    let p = err_from_is_err_and c.from_residual.result c.from_residual.ensures.1 in
    rw (p.1, p.2) (takes_as c.in-Some.ensures.found (c.in_err-from.ensures.runs))

pub returns-in-Some-clause-runs : goal.returns-in-Some-clause-runs
returns-in-Some-clause-runs c = takes_as c.in-Some.ensures.found (c.in_ok-from.ensures.runs)

pub returns-in_err-rest-clause-runs : goal.returns-in_err-rest-clause-runs
returns-in_err-rest-clause-runs c =
    let p = err_from_is_err_and c.from_residual-in_err-rest.result c.from_residual-in_err-rest.ensures.1 in
    rw (p.1, p.2) (skips c.in_default.ensures.found (misses c.in_err-rest.ensures.found))

pub returns-in_err-position-clause-runs : goal.returns-in_err-position-clause-runs
unfolding rules
returns-in_err-position-clause-runs c =
    let p = err_from_is_err_and c.from_residual-in_err-position.result c.from_residual-in_err-position.ensures.1 in
    rw (p.1, p.2) (skips c.in_default.ensures.found (takes_as c.in_ok-rest.ensures.found (stops_in c.in_err-position.ensures.runs)))

pub returns-clause-runs : goal.returns-clause-runs
unfolding rules
returns-clause-runs c = skips c.in_default.ensures.found (takes_as c.in_ok-rest.ensures.found (through c.in_ok-position.ensures.runs (is_done)))
