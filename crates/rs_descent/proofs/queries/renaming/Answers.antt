use Rattle.std.proofs.lemmas.Result.{err_from_is_err_and}
use Rattle.rs_descent.proofs.Steps.{takes_as, misses}
use Rattle.rs_descent.proofs.queries.renaming.Goals as goal

pub returns-in_err-from-clause-begins : goal.returns-in_err-from-clause-begins
returns-in_err-from-clause-begins c =
    let p = err_from_is_err_and c.from_residual.result c.from_residual.ensures.1 in
    rw (p.1, p.2) (λ form. misses c.in_err-from.ensures.found)

pub returns-in_err-rest-clause-begins : goal.returns-in_err-rest-clause-begins
returns-in_err-rest-clause-begins c =
    let p = err_from_is_err_and c.from_residual-in_err-rest.result c.from_residual-in_err-rest.ensures.1 in
    rw (p.1, p.2) (λ form. takes_as c.in_ok-from.ensures.found (misses c.in_err-rest.ensures.found))

pub returns-in_err-to-clause-begins : goal.returns-in_err-to-clause-begins
returns-in_err-to-clause-begins c =
    let p = err_from_is_err_and c.from_residual-in_err-to.result c.from_residual-in_err-to.ensures.1 in
    rw (p.1, p.2) (λ form. takes_as c.in_ok-from.ensures.found (takes_as c.in_ok-rest.ensures.found (misses c.in_err-to.ensures.found)))

pub returns-clause-begins : goal.returns-clause-begins
returns-clause-begins c = λ form outcome further. takes_as c.in_ok-from.ensures.found (takes_as c.in_ok-rest.ensures.found (takes_as c.in_ok-to.ensures.found further))
