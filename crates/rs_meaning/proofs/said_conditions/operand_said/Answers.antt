use Rattle.std.proofs.Common.{sym, subst}
use Rattle.std.proofs.lemmas.Result.{err_from_is_err_and}
use Rattle.rs_syntax.specs.Written.{SaysDatum, SaysOperand}
use Rattle.rs_meaning.proofs.SayingLaws.{nothing-said}
use Rattle.rs_meaning.proofs.said_conditions.operand_said.Goals as goal
use Rattle.rs_meaning.proofs.said_conditions.operand_said.Goals.{in-Whole, in-Quoted}

pub returns-in_err-literal-clause-err : goal.returns-in_err-literal-clause-err
returns-in_err-literal-clause-err c =
    let p = err_from_is_err_and c.from_residual.result c.from_residual.ensures.1 in
    rw (p.1, p.2) (nothing-said (SaysDatum c.args.line.now c.match-written.written) (SaysOperand c.args.line.now c.args.written) _
    (λ tree says. elim c.match-written.branch [
      | in-Whole w ↦ (let inside = subst (λ o. SaysOperand c.args.line.now o tree) w.in-Whole.is says in (inside.0, subst (λ v. SaysDatum c.args.line.now v inside.0) (sym w.written-is) inside.1))
      | in-Quoted w ↦ (let inside = subst (λ o. SaysOperand c.args.line.now o tree) w.in-Quoted.is says in (inside.0, subst (λ v. SaysDatum c.args.line.now v inside.0) (sym w.written-is) inside.1))
    ]) c.in_err-literal.ensures.err)
