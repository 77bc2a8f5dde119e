use Rattle.std.proofs.lemmas.Result.{err_from_is_err_and}
use Rattle.rs_grammar.specs.Grammar.{rules}
use Rattle.rs_descent.specs.Reading.{is_done}
use Rattle.rs_descent.proofs.Steps.{takes_as, misses}
use Rattle.rs_descent.proofs.cursors.fetch.Goals as goal

pub returns-in_err-cursor-clause-runs : goal.returns-in_err-cursor-clause-runs
unfolding rules
returns-in_err-cursor-clause-runs c =
    let p = err_from_is_err_and c.from_residual.result c.from_residual.ensures.1 in
    rw (p.1, p.2) (misses c.in_err-cursor.ensures.found)

pub returns-in_err-rows-clause-runs : goal.returns-in_err-rows-clause-runs
unfolding rules
returns-in_err-rows-clause-runs c =
    let p = err_from_is_err_and c.from_residual-in_err-rows.result c.from_residual-in_err-rows.ensures.1 in
    rw (p.1, p.2) (takes_as c.in_ok-cursor.ensures.found (misses c.in_err-rows.ensures.found))

pub returns-clause-runs : goal.returns-clause-runs
unfolding rules
returns-clause-runs c = takes_as c.in_ok-cursor.ensures.found (takes_as c.in_ok-rows.ensures.found is_done)
