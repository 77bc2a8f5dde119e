use Rattle.std.proofs.Common.{inr}
use Rattle.std.proofs.lemmas.Result.{err_from_is_err_and}
use Rattle.rs_meaning.proofs.said_alignments.piece_said.Goals as goal

pub returns-in_err-measure-clause-err : goal.returns-in_err-measure-clause-err
returns-in_err-measure-clause-err c =
    let p = err_from_is_err_and c.from_residual.result c.from_residual.ensures.1 in
    rw (p.1, p.2) (inr (c.in_err-measure.ensures.err, λ piece says. c.in_err-measure.ensures.refused piece.from says.from))

pub returns-in_err-measure-2-clause-err : goal.returns-in_err-measure-2-clause-err
returns-in_err-measure-2-clause-err c =
    let p = err_from_is_err_and c.from_residual-in_err-measure-2.result c.from_residual-in_err-measure-2.ensures.1 in
    rw (p.1, p.2) (inr (c.in_err-measure-2.ensures.err, λ piece says. c.in_err-measure-2.ensures.refused piece.to says.to))

pub returns-in_err-measure-3-clause-err : goal.returns-in_err-measure-3-clause-err
returns-in_err-measure-3-clause-err c =
    let p = err_from_is_err_and c.from_residual-in_err-measure-3.result c.from_residual-in_err-measure-3.ensures.1 in
    rw (p.1, p.2) (inr (c.in_err-measure-3.ensures.err, λ piece says. c.in_err-measure-3.ensures.refused piece.onto says.onto))

pub returns-clause-ok : goal.returns-clause-ok
returns-clause-ok c = record {
  from_route = c.name.ensures;
  from = c.in_ok-measure.ensures.ok;
  to = c.in_ok-measure-2.ensures.ok;
  onto_route = c.name-2.ensures;
  onto = c.in_ok-measure-3.ensures.ok;
}
