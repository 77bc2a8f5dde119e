use Rattle.std.proofs.Common.{arith}
use Rattle.rs_syntax.specs.Written.{position_lexemes}
use Rattle.std.proofs.lemmas.Result.{err_from_is_err_and}
use Rattle.rs_grammar.specs.Grammar.{rules}
use Rattle.rs_descent.specs.Reading.{is_done, through, stops_in}
use Rattle.rs_descent.proofs.Steps.{takes_as, misses, within}
use Rattle.rs_descent.proofs.positions.span.Goals as goal

pub returns-in_err-from-clause-runs : goal.returns-in_err-from-clause-runs
unfolding rules
returns-in_err-from-clause-runs c =
    let p = err_from_is_err_and c.from_residual.result c.from_residual.ensures.1 in
    rw (p.1, p.2) (stops_in c.in_err-from.ensures.runs)

pub returns-in_err-rest-clause-runs : goal.returns-in_err-rest-clause-runs
unfolding rules
returns-in_err-rest-clause-runs c =
    let p = err_from_is_err_and c.from_residual-in_err-rest.result c.from_residual-in_err-rest.ensures.1 in
    rw (p.1, p.2) (through c.in_ok-from.ensures.runs (misses c.in_err-rest.ensures.found))

pub returns-in_err-to-clause-runs : goal.returns-in_err-to-clause-runs
unfolding rules
returns-in_err-to-clause-runs c =
    let p = err_from_is_err_and c.from_residual-in_err-to.result c.from_residual-in_err-to.ensures.1 in
    rw (p.1, p.2) (through c.in_ok-from.ensures.runs (takes_as c.in_ok-rest.ensures.found (stops_in c.in_err-to.ensures.runs)))

pub returns-clause-runs : goal.returns-clause-runs
unfolding rules
returns-clause-runs c = through c.in_ok-from.ensures.runs (takes_as c.in_ok-rest.ensures.found (through c.in_ok-to.ensures.runs (is_done)))

pub returns-clause-shorter : goal.returns-clause-shorter
returns-clause-shorter c =
    let before = within c.args.tokens.now c.in_ok-from.rest.now (position_lexemes c.in_ok-from.from) c.in_ok-from.ensures.spelled in
    let after = within c.in_ok-rest.rest.now c.in_ok-to.rest.now (position_lexemes c.in_ok-to.to) c.in_ok-to.ensures.spelled in
    omega (arith, c.in_ok-rest.ensures.shorter)
