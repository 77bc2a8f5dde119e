use Rattle.std.proofs.Common.{inr}
use Rattle.std.proofs.lemmas.Result.{err_from_is_err_and}
use Rattle.rs_meaning.proofs.said_definitions.route_said.Goals as goal

pub returns-in_err-measure-clause-err : goal.returns-in_err-measure-clause-err
returns-in_err-measure-clause-err c =
    let p = err_from_is_err_and c.from_residual.result c.from_residual.ensures.1 in
    rw (p.1, p.2) (inr (c.in_err-measure.ensures.err, λ tree says. c.in_err-measure.ensures.refused says.0 says.2))

pub returns-in_err-measure-2-clause-err : goal.returns-in_err-measure-2-clause-err
returns-in_err-measure-2-clause-err c =
    let p = err_from_is_err_and c.from_residual-in_err-measure-2.result c.from_residual-in_err-measure-2.ensures.1 in
    rw (p.1, p.2) (inr (c.in_err-measure-2.ensures.err, λ tree says. c.in_err-measure-2.ensures.refused says.1 says.3))
