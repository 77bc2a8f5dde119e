use Rattle.std.proofs.lemmas.Result.{err_from_is_err_and}
use Rattle.rs_grammar.specs.Grammar.{rules}
use Rattle.rs_descent.specs.Reading.{is_done, through, stops_in}
use Rattle.rs_parser.proofs.reading.explain.Goals as goal

pub returns-in_err-query-clause-runs : goal.returns-in_err-query-clause-runs
unfolding rules
returns-in_err-query-clause-runs c =
    let p = err_from_is_err_and c.from_residual.result c.from_residual.ensures.1 in
    rw (p.1, p.2) (stops_in c.in_err-query.ensures.runs)

pub returns-clause-runs : goal.returns-clause-runs
unfolding rules
returns-clause-runs c = through c.in_ok-query.ensures.runs is_done
