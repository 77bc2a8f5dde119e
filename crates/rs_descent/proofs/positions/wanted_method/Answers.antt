use Rattle.std.proofs.lemmas.Result.{err_from_is_err_and}
use Rattle.rs_grammar.specs.Grammar.{rules}
use Rattle.rs_descent.specs.Reading.{is_done, skips, through, stops_in}
use Rattle.rs_descent.proofs.Steps.{takes_as}
use Rattle.rs_descent.proofs.positions.wanted_method.Goals as goal

pub returns-in_err-method-in-Some-clause-runs : goal.returns-in_err-method-in-Some-clause-runs
unfolding rules
returns-in_err-method-in-Some-clause-runs c =
    let p = err_from_is_err_and c.from_residual.result c.from_residual.ensures.1 in
    rw (p.1, p.2) (takes_as c.in-Some.ensures.found (stops_in c.in_err-method-in-Some.ensures.runs))

pub returns-in_ok-method-in-Some-clause-runs : goal.returns-in_ok-method-in-Some-clause-runs
unfolding rules
returns-in_ok-method-in-Some-clause-runs c = takes_as c.in-Some.ensures.found (through c.in_ok-method-in-Some.ensures.runs is_done)

pub returns-in-None-clause-runs : goal.returns-in-None-clause-runs
returns-in-None-clause-runs c = skips c.in-None.ensures.found is_done
