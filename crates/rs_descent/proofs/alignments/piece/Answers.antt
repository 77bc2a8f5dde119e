use Rattle.std.proofs.lemmas.Result.{err_from_is_err_and}
use Rattle.rs_descent.specs.Forms.{landing_form}
use Rattle.rs_descent.proofs.alignments.piece.Goals as goal

pub returns-in_err-part-clause-runs : goal.returns-in_err-part-clause-runs
returns-in_err-part-clause-runs c =
    let p = err_from_is_err_and c.from_residual.result c.from_residual.ensures.1 in
    rw (p.1, p.2) (c.in_err-part.ensures.begins landing_form)

pub returns-in_err-onto_route-clause-runs : goal.returns-in_err-onto_route-clause-runs
returns-in_err-onto_route-clause-runs c =
    let p = err_from_is_err_and c.from_residual-in_err-onto_route.result c.from_residual-in_err-onto_route.ensures.1 in
    rw (p.1, p.2) (c.in_ok-part.ensures.begins landing_form _ c.in_err-onto_route.ensures.runs)

pub returns-clause-runs : goal.returns-clause-runs
returns-clause-runs c = c.in_ok-part.ensures.begins landing_form _ c.in_ok-onto_route.ensures.runs

pub returns-clause-spelled : goal.returns-clause-spelled
returns-clause-spelled c = rw (c.in_ok-part.ensures.spelled, c.in_ok-onto_route.ensures.spelled)
