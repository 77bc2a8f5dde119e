use Rattle.rs_grammar.specs.declared.kind.TokenKind.TheVariants as kinds
use Rattle.rs_grammar.specs.Grammar.{rules, comparison, operand, done, sub, null_form}
use Rattle.std.proofs.lemmas.Result.{err_from_is_err_and}
use Rattle.rs_descent.specs.Reading.{is_done, skips, through, stops_in}
use Rattle.rs_descent.proofs.Steps.{RunsTo-takes}
use Rattle.rs_descent.proofs.conditions.test.Goals as goal

pub returns-in-Some-clause-runs : goal.returns-in-Some-clause-runs
returns-in-Some-clause-runs c = RunsTo-takes kinds.Is null_form (sub comparison (sub operand done)) c.args.tokens.now c.in-Some.rest.now c.null_test.result c.in-Some.ensures.found c.null_test.ensures.runs

pub returns-in_err-comparison-clause-runs : goal.returns-in_err-comparison-clause-runs
unfolding rules
returns-in_err-comparison-clause-runs c =
    let p = err_from_is_err_and c.from_residual.result c.from_residual.ensures.1 in
    rw (p.1, p.2) (skips c.in_default.ensures.found (stops_in c.in_err-comparison.ensures.runs))

pub returns-in_err-operand-clause-runs : goal.returns-in_err-operand-clause-runs
unfolding rules
returns-in_err-operand-clause-runs c =
    let p = err_from_is_err_and c.from_residual-in_err-operand.result c.from_residual-in_err-operand.ensures.1 in
    rw (p.1, p.2) (skips c.in_default.ensures.found (through c.in_ok-comparison.ensures.runs (stops_in c.in_err-operand.ensures.runs)))

pub returns-clause-runs : goal.returns-clause-runs
unfolding rules
returns-clause-runs c = skips c.in_default.ensures.found (through c.in_ok-comparison.ensures.runs (through c.in_ok-operand.ensures.runs (is_done)))
