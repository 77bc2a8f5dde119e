use Rattle.rs_grammar.specs.Grammar.{open_form, fetch_form, close_form}
use Rattle.rs_descent.specs.Reading.{skips}
use Rattle.rs_descent.specs.Forms.{file_form, session_form}
use Rattle.rs_descent.proofs.Steps.{takes_as, RunsTo-after}
use Rattle.rs_descent.proofs.cursors.session_command.Goals as goal

pub returns-in-Some-clause-runs : goal.returns-in-Some-clause-runs
returns-in-Some-clause-runs c =
    RunsTo-after open_form session_form c.args.tokens.now c.in-Some.rest.now c.open.result
    (λ outcome run. takes_as c.in-Some.ensures.found run)
    c.open.ensures.runs

pub returns-in-Some-clause-spelled : goal.returns-in-Some-clause-spelled
returns-in-Some-clause-spelled c = rw c.in-Some.ensures.spelled c.open.ensures.spelled

pub returns-in-Some-mark-clause-runs : goal.returns-in-Some-mark-clause-runs
returns-in-Some-mark-clause-runs c =
    RunsTo-after fetch_form session_form c.args.tokens.now c.in-Some-mark.rest.now c.fetch.result
    (λ outcome run. skips c.in_default.ensures.found (takes_as c.in-Some-mark.ensures.found run))
    c.fetch.ensures.runs

pub returns-in-Some-mark-clause-spelled : goal.returns-in-Some-mark-clause-spelled
returns-in-Some-mark-clause-spelled c = rw c.in-Some-mark.ensures.spelled c.fetch.ensures.spelled

pub returns-in-Some-mark-2-clause-runs : goal.returns-in-Some-mark-2-clause-runs
returns-in-Some-mark-2-clause-runs c =
    RunsTo-after close_form session_form c.args.tokens.now c.in-Some-mark-2.rest.now c.close.result
    (λ outcome run. skips c.in_default.ensures.found (skips c.in_default-mark.ensures.found (takes_as c.in-Some-mark-2.ensures.found run)))
    c.close.ensures.runs

pub returns-in-Some-mark-2-clause-spelled : goal.returns-in-Some-mark-2-clause-spelled
returns-in-Some-mark-2-clause-spelled c = rw c.in-Some-mark-2.ensures.spelled c.close.ensures.spelled

pub returns-clause-runs : goal.returns-clause-runs
returns-clause-runs c =
    RunsTo-after file_form session_form c.args.tokens.now c.args.tokens.now c.file_command.result
    (λ outcome run. skips c.in_default.ensures.found (skips c.in_default-mark.ensures.found (skips c.in_default-mark-2.ensures.found run)))
    c.file_command.ensures.runs
