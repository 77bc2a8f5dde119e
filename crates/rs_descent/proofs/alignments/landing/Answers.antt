use Rattle.std.proofs.lemmas.Result.{err_from_is_err_and}
use Rattle.rs_grammar.specs.Grammar.{rules}
use Rattle.rs_descent.specs.Reading.{is_done, through, stops_in}
use Rattle.rs_descent.proofs.Steps.{takes_as, misses}
use Rattle.rs_descent.proofs.alignments.landing.Goals as goal

pub returns-in_err-rest-clause-runs : goal.returns-in_err-rest-clause-runs
returns-in_err-rest-clause-runs c =
    let p = err_from_is_err_and c.from_residual.result c.from_residual.ensures.1 in
    rw (p.1, p.2) (misses c.in_err-rest.ensures.found)

pub returns-in_err-route-clause-runs : goal.returns-in_err-route-clause-runs
returns-in_err-route-clause-runs c =
    let p = err_from_is_err_and c.from_residual-in_err-route.result c.from_residual-in_err-route.ensures.1 in
    rw (p.1, p.2) (takes_as c.in_ok-rest.ensures.found (misses c.in_err-route.ensures.found))

pub returns-in_err-rest-2-clause-runs : goal.returns-in_err-rest-2-clause-runs
returns-in_err-rest-2-clause-runs c =
    let p = err_from_is_err_and c.from_residual-in_err-rest-2.result c.from_residual-in_err-rest-2.ensures.1 in
    rw (p.1, p.2) (takes_as c.in_ok-rest.ensures.found (takes_as c.in_ok-route.ensures.found (misses c.in_err-rest-2.ensures.found)))

pub returns-in_err-at-clause-runs : goal.returns-in_err-at-clause-runs
unfolding rules
returns-in_err-at-clause-runs c =
    let p = err_from_is_err_and c.from_residual-in_err-at.result c.from_residual-in_err-at.ensures.1 in
    rw (p.1, p.2) (takes_as c.in_ok-rest.ensures.found (takes_as c.in_ok-route.ensures.found (takes_as c.in_ok-rest-2.ensures.found (stops_in c.in_err-at.ensures.runs))))

pub returns-clause-runs : goal.returns-clause-runs
unfolding rules
returns-clause-runs c = takes_as c.in_ok-rest.ensures.found (takes_as c.in_ok-route.ensures.found (takes_as c.in_ok-rest-2.ensures.found (through c.in_ok-at.ensures.runs is_done)))

pub returns-clause-spelled : goal.returns-clause-spelled
returns-clause-spelled c = rw (c.in_ok-rest.ensures.spelled, c.in_ok-route.ensures.spelled, c.in_ok-rest-2.ensures.spelled, c.in_ok-at.ensures.spelled)
