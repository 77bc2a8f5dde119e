use Rattle.std.proofs.lemmas.Result.{err_from_is_err_and}
use Rattle.rs_grammar.specs.Grammar.{rules}
use Rattle.rs_descent.specs.Reading.{through, stops_in}
use Rattle.rs_descent.proofs.Steps.{takes_as, misses}
use Rattle.rs_descent.proofs.alignments.carried.Goals as goal

pub returns-in_err-route-clause-begins : goal.returns-in_err-route-clause-begins
returns-in_err-route-clause-begins c =
    let p = err_from_is_err_and c.from_residual.result c.from_residual.ensures.1 in
    rw (p.1, p.2) (λ form. misses c.in_err-route.ensures.found)

pub returns-in_err-rest-clause-begins : goal.returns-in_err-rest-clause-begins
returns-in_err-rest-clause-begins c =
    let p = err_from_is_err_and c.from_residual-in_err-rest.result c.from_residual-in_err-rest.ensures.1 in
    rw (p.1, p.2) (λ form. takes_as c.in_ok-route.ensures.found (misses c.in_err-rest.ensures.found))

pub returns-in_err-from-clause-begins : goal.returns-in_err-from-clause-begins
unfolding rules
returns-in_err-from-clause-begins c =
    let p = err_from_is_err_and c.from_residual-in_err-from.result c.from_residual-in_err-from.ensures.1 in
    rw (p.1, p.2) (λ form. takes_as c.in_ok-route.ensures.found (takes_as c.in_ok-rest.ensures.found (stops_in c.in_err-from.ensures.runs)))

pub returns-in_err-rest-2-clause-begins : goal.returns-in_err-rest-2-clause-begins
unfolding rules
returns-in_err-rest-2-clause-begins c =
    let p = err_from_is_err_and c.from_residual-in_err-rest-2.result c.from_residual-in_err-rest-2.ensures.1 in
    rw (p.1, p.2) (λ form. takes_as c.in_ok-route.ensures.found (takes_as c.in_ok-rest.ensures.found (through c.in_ok-from.ensures.runs (misses c.in_err-rest-2.ensures.found))))

pub returns-in_err-to-clause-begins : goal.returns-in_err-to-clause-begins
unfolding rules
returns-in_err-to-clause-begins c =
    let p = err_from_is_err_and c.from_residual-in_err-to.result c.from_residual-in_err-to.ensures.1 in
    rw (p.1, p.2) (λ form. takes_as c.in_ok-route.ensures.found (takes_as c.in_ok-rest.ensures.found (through c.in_ok-from.ensures.runs (takes_as c.in_ok-rest-2.ensures.found (stops_in c.in_err-to.ensures.runs)))))

pub returns-clause-begins : goal.returns-clause-begins
unfolding rules
returns-clause-begins c = λ form outcome further. takes_as c.in_ok-route.ensures.found (takes_as c.in_ok-rest.ensures.found (through c.in_ok-from.ensures.runs (takes_as c.in_ok-rest-2.ensures.found (through c.in_ok-to.ensures.runs further))))

pub returns-clause-spelled : goal.returns-clause-spelled
returns-clause-spelled c = rw (c.in_ok-route.ensures.spelled, c.in_ok-rest.ensures.spelled, c.in_ok-from.ensures.spelled, c.in_ok-rest-2.ensures.spelled, c.in_ok-to.ensures.spelled)
