use Rattle.std.proofs.Common.{rules, sym, subst}
use Rattle.std.proofs.lemmas.Result.{err_from_is_err_and}
use Rattle.rs_methods.specs.Position.{PositionExpression}
use Rattle.rs_syntax.specs.Written.{SaysPosition}
use Rattle.rs_meaning.proofs.meaning.position.Goals as goal

pub returns-in_err-measure-in-Measure-clause-refused : goal.returns-in_err-measure-in-Measure-clause-refused
returns-in_err-measure-in-Measure-clause-refused c =
    let p = err_from_is_err_and c.from_residual.result c.from_residual.ensures.1 in
    rw (p.1) (subst (λ w. (q : PositionExpression) → SaysPosition c.args.line.now w q → ⊥) (sym c.in-Measure.is) (λ q says. c.in_err-measure-in-Measure.ensures.refused says.0 says.1))

pub returns-in_err-part-in-Percentage-clause-refused : goal.returns-in_err-part-in-Percentage-clause-refused
returns-in_err-part-in-Percentage-clause-refused c =
    let p = err_from_is_err_and c.from_residual-in_err-part-in-Percentage.result c.from_residual-in_err-part-in-Percentage.ensures.1 in
    rw (p.1) (subst (λ w. (q : PositionExpression) → SaysPosition c.args.line.now w q → ⊥) (sym c.in-Percentage.is) (λ q says. c.in_err-part-in-Percentage.ensures.refused says.0 says.1))

pub returns-in_err-beyond-in-Beyond-clause-refused : goal.returns-in_err-beyond-in-Beyond-clause-refused
returns-in_err-beyond-in-Beyond-clause-refused c =
    let p = err_from_is_err_and c.from_residual-in_err-beyond-in-Beyond.result c.from_residual-in_err-beyond-in-Beyond.ensures.1 in
    rw (p.1) (subst (λ w. (q : PositionExpression) → SaysPosition c.args.line.now w q → ⊥) (sym c.in-Beyond.is) (λ q says. c.in_err-beyond-in-Beyond.ensures.refused says.0 says.1))

pub returns-in_err-before-in-Before-clause-refused : goal.returns-in_err-before-in-Before-clause-refused
returns-in_err-before-in-Before-clause-refused c =
    let p = err_from_is_err_and c.from_residual-in_err-before-in-Before.result c.from_residual-in_err-before-in-Before.ensures.1 in
    rw (p.1) (subst (λ w. (q : PositionExpression) → SaysPosition c.args.line.now w q → ⊥) (sym c.in-Before.is) (λ q says. c.in_err-before-in-Before.ensures.refused says.0 says.1))

pub returns-in_ok-before-in-Before-clause-ok : goal.returns-in_ok-before-in-Before-clause-ok
returns-in_ok-before-in-Before-clause-ok c = search rules
