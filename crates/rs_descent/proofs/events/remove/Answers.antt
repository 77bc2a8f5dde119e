use Rattle.std.proofs.Common.{append_assoc}
use Rattle.std.proofs.lemmas.Result.{err_from_is_err_and}
use Rattle.rs_grammar.specs.Grammar.{rules}
use Rattle.rs_descent.specs.Reading.{through, stops_in}
use Rattle.rs_descent.proofs.Steps.{takes_as, misses}
use Rattle.rs_descent.proofs.events.remove.Goals as goal

pub returns-in_err-table-clause-runs : goal.returns-in_err-table-clause-runs
unfolding rules
returns-in_err-table-clause-runs c =
    let p = err_from_is_err_and c.from_residual.result c.from_residual.ensures.1 in
    rw (p.1, p.2) (misses c.in_err-table.ensures.found)

pub returns-in_err-rest-clause-runs : goal.returns-in_err-rest-clause-runs
unfolding rules
returns-in_err-rest-clause-runs c =
    let p = err_from_is_err_and c.from_residual-in_err-rest.result c.from_residual-in_err-rest.ensures.1 in
    rw (p.1, p.2) (takes_as c.in_ok-table.ensures.found (misses c.in_err-rest.ensures.found))

pub returns-in_err-window-clause-runs : goal.returns-in_err-window-clause-runs
unfolding rules
returns-in_err-window-clause-runs c =
    let p = err_from_is_err_and c.from_residual-in_err-window.result c.from_residual-in_err-window.ensures.1 in
    rw (p.1, p.2) (takes_as c.in_ok-table.ensures.found (takes_as c.in_ok-rest.ensures.found (stops_in c.in_err-window.ensures.runs)))

pub returns-in_err-condition-clause-runs : goal.returns-in_err-condition-clause-runs
unfolding rules
returns-in_err-condition-clause-runs c =
    let p = err_from_is_err_and c.from_residual-in_err-condition.result c.from_residual-in_err-condition.ensures.1 in
    rw (p.1, p.2) (takes_as c.in_ok-table.ensures.found (takes_as c.in_ok-rest.ensures.found (through c.in_ok-window.ensures.runs c.in_err-condition.ensures.runs)))

pub returns-clause-runs : goal.returns-clause-runs
unfolding rules
returns-clause-runs c = takes_as c.in_ok-table.ensures.found (takes_as c.in_ok-rest.ensures.found (through c.in_ok-window.ensures.runs c.in_ok-condition.ensures.runs))

pub returns-clause-spelled : goal.returns-clause-spelled
returns-clause-spelled c = rw (c.in_ok-table.ensures.spelled, c.in_ok-rest.ensures.spelled, c.in_ok-window.ensures.spelled, c.in_ok-condition.ensures.spelled, append_assoc)
