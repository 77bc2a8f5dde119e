use Rattle.std.proofs.Common.{append_assoc}
use Rattle.std.proofs.lemmas.Result.{err_from_is_err_and}
use Rattle.rs_grammar.specs.Grammar.{rules}
use Rattle.rs_descent.specs.Reading.{is_done, is_fail, skips, through, stops_in}
use Rattle.rs_descent.proofs.Steps.{takes_as, misses}
use Rattle.rs_descent.proofs.definitions.define_table.Goals as goal

pub returns-in_err-rest-clause-runs : goal.returns-in_err-rest-clause-runs
unfolding rules
returns-in_err-rest-clause-runs c =
    let p = err_from_is_err_and c.from_residual.result c.from_residual.ensures.1 in
    rw (p.1, p.2) (misses c.in_err-rest.ensures.found)

pub returns-in_err-name-clause-runs : goal.returns-in_err-name-clause-runs
unfolding rules
returns-in_err-name-clause-runs c =
    let p = err_from_is_err_and c.from_residual-in_err-name.result c.from_residual-in_err-name.ensures.1 in
    rw (p.1, p.2) (takes_as c.in_ok-rest.ensures.found (misses c.in_err-name.ensures.found))

pub returns-in_err-rest-2-clause-runs : goal.returns-in_err-rest-2-clause-runs
unfolding rules
returns-in_err-rest-2-clause-runs c =
    let p = err_from_is_err_and c.from_residual-in_err-rest-2.result c.from_residual-in_err-rest-2.ensures.1 in
    rw (p.1, p.2) (takes_as c.in_ok-rest.ensures.found (takes_as c.in_ok-name.ensures.found (misses c.in_err-rest-2.ensures.found)))

pub returns-in_err-columns-clause-runs : goal.returns-in_err-columns-clause-runs
unfolding rules
returns-in_err-columns-clause-runs c =
    let p = err_from_is_err_and c.from_residual-in_err-columns.result c.from_residual-in_err-columns.ensures.1 in
    rw (p.1, p.2) (takes_as c.in_ok-rest.ensures.found (takes_as c.in_ok-name.ensures.found (takes_as c.in_ok-rest-2.ensures.found (stops_in c.in_err-columns.ensures.runs))))

pub returns-in-Some-clause-runs : goal.returns-in-Some-clause-runs
unfolding rules
returns-in-Some-clause-runs c = takes_as c.in_ok-rest.ensures.found (takes_as c.in_ok-name.ensures.found (takes_as c.in_ok-rest-2.ensures.found (through c.in_ok-columns.ensures.runs (takes_as c.in-Some.ensures.found is_done))))

pub returns-in-None-clause-runs : goal.returns-in-None-clause-runs
unfolding rules
returns-in-None-clause-runs c = takes_as c.in_ok-rest.ensures.found (takes_as c.in_ok-name.ensures.found (takes_as c.in_ok-rest-2.ensures.found (through c.in_ok-columns.ensures.runs (skips c.in-None.ensures.found is_fail))))

pub returns-in-Some-clause-spelled : goal.returns-in-Some-clause-spelled
returns-in-Some-clause-spelled c = rw (c.in_ok-rest.ensures.spelled, c.in_ok-name.ensures.spelled, c.in_ok-rest-2.ensures.spelled, c.in_ok-columns.ensures.spelled, c.in-Some.ensures.spelled, append_assoc)
