use Rattle.std.proofs.lemmas.Result.{err_from_is_err_and}
use Rattle.std.proofs.Common.{append_assoc}
use Rattle.rs_grammar.specs.Grammar.{rules, place, sub}
use Rattle.rs_descent.specs.Reading.{through, stops_in}
use Rattle.rs_descent.specs.Forms.{row_form}
use Rattle.rs_descent.proofs.events.insert.Goals as goal

pub returns-in_err-table-clause-runs : goal.returns-in_err-table-clause-runs
returns-in_err-table-clause-runs c =
    let p = err_from_is_err_and c.from_residual.result c.from_residual.ensures.1 in
    rw (p.1, p.2) (c.in_err-table.ensures.begins (sub place row_form))

pub returns-in_err-place-clause-runs : goal.returns-in_err-place-clause-runs
unfolding rules
returns-in_err-place-clause-runs c =
    let p = err_from_is_err_and c.from_residual-in_err-place.result c.from_residual-in_err-place.ensures.1 in
    rw (p.1, p.2) (c.in_ok-table.ensures.begins (sub place row_form) _ (stops_in c.in_err-place.ensures.runs))

pub returns-in_err-values-clause-runs : goal.returns-in_err-values-clause-runs
unfolding rules
returns-in_err-values-clause-runs c =
    let p = err_from_is_err_and c.from_residual-in_err-values.result c.from_residual-in_err-values.ensures.1 in
    rw (p.1, p.2) (c.in_ok-table.ensures.begins (sub place row_form) _ (through c.in_ok-place.ensures.runs c.in_err-values.ensures.runs))

pub returns-clause-runs : goal.returns-clause-runs
unfolding rules
returns-clause-runs c = c.in_ok-table.ensures.begins (sub place row_form) _ (through c.in_ok-place.ensures.runs c.in_ok-values.ensures.runs)

pub returns-clause-spelled : goal.returns-clause-spelled
returns-clause-spelled c = rw (c.in_ok-table.ensures.spelled, c.in_ok-place.ensures.spelled, c.in_ok-values.ensures.spelled, append_assoc, append_assoc)
