use Rattle.std.proofs.lemmas.Result.{err_from_is_err_and}
use Rattle.rs_grammar.specs.Grammar.{rules}
use Rattle.rs_descent.specs.Reading.{is_done, is_fail, skips}
use Rattle.rs_descent.proofs.Steps.{takes_as, misses}
use Rattle.rs_descent.proofs.drops.drop_referent.Goals as goal

pub returns-in_err-route-clause-runs : goal.returns-in_err-route-clause-runs
unfolding rules
returns-in_err-route-clause-runs c =
    let p = err_from_is_err_and c.from_residual.result c.from_residual.ensures.1 in
    rw (p.1, p.2) (misses c.in_err-route.ensures.found)

pub returns-in-Some-clause-runs : goal.returns-in-Some-clause-runs
unfolding rules
returns-in-Some-clause-runs c = takes_as c.in_ok-route.ensures.found (takes_as c.in-Some.ensures.found is_done)

pub returns-in-None-clause-runs : goal.returns-in-None-clause-runs
unfolding rules
returns-in-None-clause-runs c = takes_as c.in_ok-route.ensures.found (skips c.in-None.ensures.found is_fail)

pub returns-in-Some-clause-spelled : goal.returns-in-Some-clause-spelled
returns-in-Some-clause-spelled c = rw (c.in_ok-route.ensures.spelled, c.in-Some.ensures.spelled)
