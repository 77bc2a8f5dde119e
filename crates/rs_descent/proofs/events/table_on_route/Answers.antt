use Rattle.std.proofs.lemmas.Result.{err_from_is_err_and}
use Rattle.rs_descent.specs.Reading.{is_fail, skips}
use Rattle.rs_descent.proofs.Steps.{takes_as, misses}
use Rattle.rs_descent.proofs.events.table_on_route.Goals as goal

pub returns-in_err-rest-clause-begins : goal.returns-in_err-rest-clause-begins
returns-in_err-rest-clause-begins c =
    let p = err_from_is_err_and c.from_residual.result c.from_residual.ensures.1 in
    rw (p.1, p.2) (λ form. misses c.in_err-rest.ensures.found)

pub returns-in_err-table-clause-begins : goal.returns-in_err-table-clause-begins
returns-in_err-table-clause-begins c =
    let p = err_from_is_err_and c.from_residual-in_err-table.result c.from_residual-in_err-table.ensures.1 in
    rw (p.1, p.2) (λ form. takes_as c.in_ok-rest.ensures.found (misses c.in_err-table.ensures.found))

pub returns-in_err-rest-2-clause-begins : goal.returns-in_err-rest-2-clause-begins
returns-in_err-rest-2-clause-begins c =
    let p = err_from_is_err_and c.from_residual-in_err-rest-2.result c.from_residual-in_err-rest-2.ensures.1 in
    rw (p.1, p.2) (λ form. takes_as c.in_ok-rest.ensures.found (takes_as c.in_ok-table.ensures.found (misses c.in_err-rest-2.ensures.found)))

pub returns-in-Some-clause-begins : goal.returns-in-Some-clause-begins
returns-in-Some-clause-begins c = λ form outcome further. takes_as c.in_ok-rest.ensures.found (takes_as c.in_ok-table.ensures.found (takes_as c.in_ok-rest-2.ensures.found (takes_as c.in-Some.ensures.found further)))

pub returns-in-None-clause-begins : goal.returns-in-None-clause-begins
returns-in-None-clause-begins c = λ form. takes_as c.in_ok-rest.ensures.found (takes_as c.in_ok-table.ensures.found (takes_as c.in_ok-rest-2.ensures.found (skips c.in-None.ensures.found is_fail)))

pub returns-in-Some-clause-spelled : goal.returns-in-Some-clause-spelled
returns-in-Some-clause-spelled c = rw (c.in_ok-rest.ensures.spelled, c.in_ok-table.ensures.spelled, c.in_ok-rest-2.ensures.spelled, c.in-Some.ensures.spelled)
