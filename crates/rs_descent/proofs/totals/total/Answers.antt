use Rattle.std.proofs.Common.{◌∷◌, ◌++◌, append_assoc}
use Rattle.std.proofs.lemmas.Result.{err_from_is_err_and}
use Rattle.rs_grammar.specs.declared.kind.TokenKind.TheVariants as kinds
use Rattle.rs_grammar.specs.Grammar.{rules}
use Rattle.rs_descent.specs.Reading.{through, stops_in}
use Rattle.rs_descent.proofs.Steps.{takes_as, misses}
use Rattle.rs_syntax.specs.Written.{mark, summed_lexemes, bracketed_names_lexemes, query_lexemes, lexemes_of}
use Rattle.rs_syntax.specs.WrittenView.{query_syntax}
use Rattle.rs_descent.proofs.totals.total.Goals as goal

pub returns-in_err-query-clause-runs : goal.returns-in_err-query-clause-runs
unfolding rules
returns-in_err-query-clause-runs c =
    let p = err_from_is_err_and c.from_residual.result c.from_residual.ensures.1 in
    rw (p.1, p.2) (stops_in c.in_err-query.ensures.runs)

pub returns-in_err-rest-clause-runs : goal.returns-in_err-rest-clause-runs
unfolding rules
returns-in_err-rest-clause-runs c =
    let p = err_from_is_err_and c.from_residual-in_err-rest.result c.from_residual-in_err-rest.ensures.1 in
    rw (p.1, p.2) (through c.in_ok-query.ensures.runs (misses c.in_err-rest.ensures.found))

pub returns-in_err-by-clause-runs : goal.returns-in_err-by-clause-runs
unfolding rules
returns-in_err-by-clause-runs c =
    let p = err_from_is_err_and c.from_residual-in_err-by.result c.from_residual-in_err-by.ensures.1 in
    rw (p.1, p.2) (through c.in_ok-query.ensures.runs (takes_as c.in_ok-rest.ensures.found (stops_in c.in_err-by.ensures.runs)))

pub returns-in_err-summed-clause-runs : goal.returns-in_err-summed-clause-runs
unfolding rules
returns-in_err-summed-clause-runs c =
    let p = err_from_is_err_and c.from_residual-in_err-summed.result c.from_residual-in_err-summed.ensures.1 in
    rw (p.1, p.2) (through c.in_ok-query.ensures.runs (takes_as c.in_ok-rest.ensures.found (through c.in_ok-by.ensures.runs c.in_err-summed.ensures.runs)))

pub returns-clause-runs : goal.returns-clause-runs
unfolding rules
returns-clause-runs c = through c.in_ok-query.ensures.runs (takes_as c.in_ok-rest.ensures.found (through c.in_ok-by.ensures.runs c.in_ok-summed.ensures.runs))

pub returns-clause-spelled : goal.returns-clause-spelled
returns-clause-spelled c =
    let operand = query_lexemes (query_syntax c.in_ok-query.query.value) in
    let columns = bracketed_names_lexemes c.in_ok-by.by.items in
    let column = summed_lexemes c.in_ok-summed.summed in
    let end = lexemes_of c.in_ok-summed.rest.now in
    rw (c.in_ok-query.ensures.spelled, c.in_ok-rest.ensures.spelled, c.in_ok-by.ensures.spelled, c.in_ok-summed.ensures.spelled, append_assoc operand (mark kinds.By ∷ (columns ++ column)) end, append_assoc columns column end)
