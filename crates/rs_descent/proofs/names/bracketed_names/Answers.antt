use Rattle.std.proofs.lemmas.Result.{err_from_is_err_and}
use Rattle.rs_grammar.specs.Grammar.{rules}
use Rattle.rs_descent.specs.Reading.{is_done, is_fail, skips, through, stops_in}
use Rattle.rs_descent.proofs.Steps.{takes_as, misses}
use Rattle.rs_descent.proofs.names.bracketed_names.Goals as goal

pub returns-in_err-rest-clause-runs : goal.returns-in_err-rest-clause-runs
returns-in_err-rest-clause-runs c =
    let p = err_from_is_err_and c.from_residual.result c.from_residual.ensures.1 in
    rw (p.1, p.2) (misses c.in_err-rest.ensures.found)

pub returns-in-Some-clause-runs : goal.returns-in-Some-clause-runs
returns-in-Some-clause-runs c = takes_as c.in_ok-rest.ensures.found (takes_as c.in-Some.ensures.found is_done)

pub returns-in_err-names-clause-runs : goal.returns-in_err-names-clause-runs
unfolding rules
returns-in_err-names-clause-runs c =
    let p = err_from_is_err_and c.from_residual-in_err-names.result c.from_residual-in_err-names.ensures.1 in
    rw (p.1, p.2) (takes_as c.in_ok-rest.ensures.found (skips c.in_default.ensures.found (stops_in c.in_err-names.ensures.runs)))

pub returns-in-Some-mark-clause-runs : goal.returns-in-Some-mark-clause-runs
unfolding rules
returns-in-Some-mark-clause-runs c = takes_as c.in_ok-rest.ensures.found (skips c.in_default.ensures.found (through c.in_ok-names.ensures.runs (takes_as c.in-Some-mark.ensures.found is_done)))

pub returns-in-None-clause-runs : goal.returns-in-None-clause-runs
unfolding rules
returns-in-None-clause-runs c = takes_as c.in_ok-rest.ensures.found (skips c.in_default.ensures.found (through c.in_ok-names.ensures.runs (skips c.in-None.ensures.found is_fail)))
