use Rattle.std.proofs.lemmas.Result.{err_from_is_err_and}
use Rattle.rs_grammar.specs.declared.kind.TokenKind.TheVariants as kinds
use Rattle.rs_grammar.specs.Grammar.{rules, measure, done, fail, pick, sub, need, offset_form}
use Rattle.rs_descent.specs.Reading.{is_done, is_fail, skips, through, stops_in}
use Rattle.rs_descent.proofs.Steps.{takes_as, RunsTo-takes}
use Rattle.rs_descent.proofs.positions.position.Goals as goal

pub returns-in-Some-text-clause-runs : goal.returns-in-Some-text-clause-runs
returns-in-Some-text-clause-runs c =
    RunsTo-takes kinds.AtSign (need kinds.Name offset_form) (sub measure (pick kinds.PercentSign done done)) c.args.tokens.now c.in-Some.rest.now c.offset.result c.in-Some.ensures.found
    (RunsTo-takes kinds.Name offset_form fail c.in-Some.rest.now c.in-Some-text.rest.now c.offset.result c.in-Some-text.ensures.found c.offset.ensures.runs)

pub returns-in-None-clause-runs : goal.returns-in-None-clause-runs
returns-in-None-clause-runs c = takes_as c.in-Some.ensures.found (skips c.in-None.ensures.found is_fail)

pub returns-in_err-number-clause-runs : goal.returns-in_err-number-clause-runs
unfolding rules
returns-in_err-number-clause-runs c =
    let p = err_from_is_err_and c.from_residual.result c.from_residual.ensures.1 in
    rw (p.1, p.2) (skips c.in_default.ensures.found (stops_in c.in_err-number.ensures.runs))

pub returns-in-Some-mark-clause-runs : goal.returns-in-Some-mark-clause-runs
unfolding rules
returns-in-Some-mark-clause-runs c = skips c.in_default.ensures.found (through c.in_ok-number.ensures.runs (takes_as c.in-Some-mark.ensures.found is_done))

pub returns-in-None-mark-clause-runs : goal.returns-in-None-mark-clause-runs
unfolding rules
returns-in-None-mark-clause-runs c = skips c.in_default.ensures.found (through c.in_ok-number.ensures.runs (skips c.in-None-mark.ensures.found is_done))
