use Rattle.std.proofs.lemmas.Result.{err_from_is_err_and}
use Rattle.rs_grammar.specs.Grammar.{rules}
use Rattle.rs_descent.proofs.Steps.{takes_as, misses}
use Rattle.rs_descent.proofs.columns.column.Goals as goal

pub returns-in_err-name-clause-runs : goal.returns-in_err-name-clause-runs
unfolding rules
returns-in_err-name-clause-runs c =
    let p = err_from_is_err_and c.from_residual.result c.from_residual.ensures.1 in
    rw (p.1, p.2) (misses c.in_err-name.ensures.found)

pub returns-in_err-column_type-clause-runs : goal.returns-in_err-column_type-clause-runs
unfolding rules
returns-in_err-column_type-clause-runs c =
    let p = err_from_is_err_and c.from_residual-in_err-column_type.result c.from_residual-in_err-column_type.ensures.1 in
    rw (p.1, p.2) (takes_as c.in_ok-name.ensures.found c.in_err-column_type.ensures.runs)

pub returns-clause-runs : goal.returns-clause-runs
unfolding rules
returns-clause-runs c = takes_as c.in_ok-name.ensures.found c.in_ok-column_type.ensures.runs
