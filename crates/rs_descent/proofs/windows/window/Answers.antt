use Rattle.std.proofs.lemmas.Result.{err_from_is_err_and}
use Rattle.rs_descent.specs.Reading.{is_done, skips}
use Rattle.rs_descent.proofs.Steps.{takes_as, misses}
use Rattle.rs_descent.proofs.windows.window.Goals as goal

pub returns-in_err-route-clause-runs : goal.returns-in_err-route-clause-runs
returns-in_err-route-clause-runs c =
    let p = err_from_is_err_and c.from_residual.result c.from_residual.ensures.1 in
    rw (p.1, p.2) (misses c.in_err-route.ensures.found)

pub returns-in_err-from-in-Some-clause-runs : goal.returns-in_err-from-in-Some-clause-runs
returns-in_err-from-in-Some-clause-runs c =
    let p = err_from_is_err_and c.from_residual-in_err-from-in-Some.result c.from_residual-in_err-from-in-Some.ensures.1 in
    rw (p.1, p.2) (takes_as c.in_ok-route.ensures.found (takes_as c.in-Some.ensures.found (c.in_err-from-in-Some.ensures.runs)))

pub returns-in_ok-from-in-Some-clause-runs : goal.returns-in_ok-from-in-Some-clause-runs
returns-in_ok-from-in-Some-clause-runs c = takes_as c.in_ok-route.ensures.found (takes_as c.in-Some.ensures.found (c.in_ok-from-in-Some.ensures.runs))

pub returns-in-None-clause-runs : goal.returns-in-None-clause-runs
returns-in-None-clause-runs c = takes_as c.in_ok-route.ensures.found (skips c.in-None.ensures.found (is_done))
