use Rattle.rs_grammar.specs.Grammar.{translate_form, select_form, total_form, explain_form}
use Rattle.rs_descent.specs.Reading.{skips}
use Rattle.rs_descent.specs.Forms.{session_form, asking_form}
use Rattle.rs_descent.proofs.Steps.{takes_as, RunsTo-after}
use Rattle.rs_parser.proofs.reading.asking.Goals as goal

pub returns-in-Some-clause-runs : goal.returns-in-Some-clause-runs
returns-in-Some-clause-runs c =
    RunsTo-after translate_form asking_form c.args.tokens.now c.in-Some.rest.now c.translate.result
    (λ outcome run. takes_as c.in-Some.ensures.found run)
    c.translate.ensures.runs

pub returns-in-Some-clause-spelled : goal.returns-in-Some-clause-spelled
returns-in-Some-clause-spelled c = rw c.in-Some.ensures.spelled c.translate.ensures.spelled

pub returns-in-Some-clause-full : goal.returns-in-Some-clause-full
returns-in-Some-clause-full c = c.translate.ensures.full

pub returns-in-Some-mark-clause-runs : goal.returns-in-Some-mark-clause-runs
returns-in-Some-mark-clause-runs c =
    RunsTo-after select_form asking_form c.args.tokens.now c.in-Some-mark.rest.now c.select.result
    (λ outcome run. skips c.in_default.ensures.found (takes_as c.in-Some-mark.ensures.found run))
    c.select.ensures.runs

pub returns-in-Some-mark-clause-spelled : goal.returns-in-Some-mark-clause-spelled
returns-in-Some-mark-clause-spelled c = rw c.in-Some-mark.ensures.spelled c.select.ensures.spelled

pub returns-in-Some-mark-clause-full : goal.returns-in-Some-mark-clause-full
returns-in-Some-mark-clause-full c = c.select.ensures.full

pub returns-in-Some-mark-2-clause-runs : goal.returns-in-Some-mark-2-clause-runs
returns-in-Some-mark-2-clause-runs c =
    RunsTo-after total_form asking_form c.args.tokens.now c.in-Some-mark-2.rest.now c.total.result
    (λ outcome run. skips c.in_default.ensures.found (skips c.in_default-mark.ensures.found (takes_as c.in-Some-mark-2.ensures.found run)))
    c.total.ensures.runs

pub returns-in-Some-mark-2-clause-spelled : goal.returns-in-Some-mark-2-clause-spelled
returns-in-Some-mark-2-clause-spelled c = rw c.in-Some-mark-2.ensures.spelled c.total.ensures.spelled

pub returns-in-Some-mark-2-clause-full : goal.returns-in-Some-mark-2-clause-full
returns-in-Some-mark-2-clause-full c = c.total.ensures.full

pub returns-in-Some-mark-3-clause-runs : goal.returns-in-Some-mark-3-clause-runs
returns-in-Some-mark-3-clause-runs c =
    RunsTo-after explain_form asking_form c.args.tokens.now c.in-Some-mark-3.rest.now c.explain.result
    (λ outcome run. skips c.in_default.ensures.found (skips c.in_default-mark.ensures.found (skips c.in_default-mark-2.ensures.found (takes_as c.in-Some-mark-3.ensures.found run))))
    c.explain.ensures.runs

pub returns-in-Some-mark-3-clause-spelled : goal.returns-in-Some-mark-3-clause-spelled
returns-in-Some-mark-3-clause-spelled c = rw c.in-Some-mark-3.ensures.spelled c.explain.ensures.spelled

pub returns-in-Some-mark-3-clause-full : goal.returns-in-Some-mark-3-clause-full
returns-in-Some-mark-3-clause-full c = c.explain.ensures.full

pub returns-clause-runs : goal.returns-clause-runs
returns-clause-runs c =
    RunsTo-after session_form asking_form c.args.tokens.now c.args.tokens.now c.session_command.result
    (λ outcome run. skips c.in_default.ensures.found (skips c.in_default-mark.ensures.found (skips c.in_default-mark-2.ensures.found (skips c.in_default-mark-3.ensures.found run))))
    c.session_command.ensures.runs
