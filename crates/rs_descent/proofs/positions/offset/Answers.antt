use Rattle.std.proofs.lemmas.Result.{err_from_is_err_and}
use Rattle.rs_grammar.specs.Grammar.{rules}
use Rattle.rs_descent.specs.Reading.{is_done, skips, through, stops_in}
use Rattle.rs_descent.proofs.Steps.{takes_as}
use Rattle.rs_descent.proofs.positions.offset.Goals as goal

pub returns-in_err-measure-clause-runs : goal.returns-in_err-measure-clause-runs
unfolding rules
returns-in_err-measure-clause-runs c =
    let p = err_from_is_err_and c.from_residual.result c.from_residual.ensures.1 in
    rw (p.1, p.2) (takes_as c.in-Some.ensures.found (stops_in c.in_err-measure.ensures.runs))

pub returns-in-Some-clause-runs : goal.returns-in-Some-clause-runs
unfolding rules
returns-in-Some-clause-runs c = takes_as c.in-Some.ensures.found (through c.in_ok-measure.ensures.runs is_done)

pub returns-in_err-measure-2-clause-runs : goal.returns-in_err-measure-2-clause-runs
unfolding rules
returns-in_err-measure-2-clause-runs c =
    let p = err_from_is_err_and c.from_residual-in_err-measure-2.result c.from_residual-in_err-measure-2.ensures.1 in
    rw (p.1, p.2) (skips c.in_default.ensures.found (takes_as c.in-Some-mark.ensures.found (stops_in c.in_err-measure-2.ensures.runs)))

pub returns-in-Some-mark-clause-runs : goal.returns-in-Some-mark-clause-runs
unfolding rules
returns-in-Some-mark-clause-runs c = skips c.in_default.ensures.found (takes_as c.in-Some-mark.ensures.found (through c.in_ok-measure-2.ensures.runs is_done))

pub returns-clause-runs : goal.returns-clause-runs
returns-clause-runs c = skips c.in_default.ensures.found (skips c.in_default-mark.ensures.found is_done)
