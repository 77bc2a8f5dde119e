use Rattle.std.proofs.lemmas.Result.{err_from_is_err_and}
use Rattle.rs_grammar.specs.Grammar.{rules}
use Rattle.rs_descent.specs.Reading.{is_done}
use Rattle.rs_descent.proofs.Steps.{takes_as, misses}
use Rattle.rs_descent.proofs.indexes.define_index.Goals as goal

pub returns-in_err-name-clause-runs : goal.returns-in_err-name-clause-runs
unfolding rules
returns-in_err-name-clause-runs c =
    let p = err_from_is_err_and c.from_residual.result c.from_residual.ensures.1 in
    rw (p.1, p.2) (misses c.in_err-name.ensures.found)

pub returns-in_err-rest-clause-runs : goal.returns-in_err-rest-clause-runs
unfolding rules
returns-in_err-rest-clause-runs c =
    let p = err_from_is_err_and c.from_residual-in_err-rest.result c.from_residual-in_err-rest.ensures.1 in
    rw (p.1, p.2) (takes_as c.in_ok-name.ensures.found (misses c.in_err-rest.ensures.found))

pub returns-in_err-table-clause-runs : goal.returns-in_err-table-clause-runs
unfolding rules
returns-in_err-table-clause-runs c =
    let p = err_from_is_err_and c.from_residual-in_err-table.result c.from_residual-in_err-table.ensures.1 in
    rw (p.1, p.2) (takes_as c.in_ok-name.ensures.found (takes_as c.in_ok-rest.ensures.found (misses c.in_err-table.ensures.found)))

pub returns-in_err-rest-2-clause-runs : goal.returns-in_err-rest-2-clause-runs
unfolding rules
returns-in_err-rest-2-clause-runs c =
    let p = err_from_is_err_and c.from_residual-in_err-rest-2.result c.from_residual-in_err-rest-2.ensures.1 in
    rw (p.1, p.2) (takes_as c.in_ok-name.ensures.found (takes_as c.in_ok-rest.ensures.found (takes_as c.in_ok-table.ensures.found (misses c.in_err-rest-2.ensures.found))))

pub returns-in_err-column-clause-runs : goal.returns-in_err-column-clause-runs
unfolding rules
returns-in_err-column-clause-runs c =
    let p = err_from_is_err_and c.from_residual-in_err-column.result c.from_residual-in_err-column.ensures.1 in
    rw (p.1, p.2) (takes_as c.in_ok-name.ensures.found (takes_as c.in_ok-rest.ensures.found (takes_as c.in_ok-table.ensures.found (takes_as c.in_ok-rest-2.ensures.found (misses c.in_err-column.ensures.found)))))

pub returns-in_err-rest-3-clause-runs : goal.returns-in_err-rest-3-clause-runs
unfolding rules
returns-in_err-rest-3-clause-runs c =
    let p = err_from_is_err_and c.from_residual-in_err-rest-3.result c.from_residual-in_err-rest-3.ensures.1 in
    rw (p.1, p.2) (takes_as c.in_ok-name.ensures.found (takes_as c.in_ok-rest.ensures.found (takes_as c.in_ok-table.ensures.found (takes_as c.in_ok-rest-2.ensures.found (takes_as c.in_ok-column.ensures.found (misses c.in_err-rest-3.ensures.found))))))

pub returns-clause-runs : goal.returns-clause-runs
unfolding rules
returns-clause-runs c = takes_as c.in_ok-name.ensures.found (takes_as c.in_ok-rest.ensures.found (takes_as c.in_ok-table.ensures.found (takes_as c.in_ok-rest-2.ensures.found (takes_as c.in_ok-column.ensures.found (takes_as c.in_ok-rest-3.ensures.found is_done)))))
