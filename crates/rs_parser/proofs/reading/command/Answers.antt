use Rattle.rs_grammar.specs.Grammar.{define_form, drop_form, move_form, insert_form, remove_form, command_form}
use Rattle.rs_descent.specs.Reading.{skips}
use Rattle.rs_descent.specs.Forms.{asking_form}
use Rattle.rs_descent.proofs.Steps.{takes_as, RunsTo-after}
use Rattle.rs_parser.proofs.reading.command.Goals as goal

pub returns-in-Some-clause-runs : goal.returns-in-Some-clause-runs
returns-in-Some-clause-runs c =
    RunsTo-after define_form command_form c.args.tokens.now c.in-Some.rest.now c.define.result
    (λ outcome run. takes_as c.in-Some.ensures.found run)
    c.define.ensures.runs

pub returns-in-Some-clause-spelled : goal.returns-in-Some-clause-spelled
returns-in-Some-clause-spelled c = rw c.in-Some.ensures.spelled c.define.ensures.spelled

pub returns-in-Some-clause-full : goal.returns-in-Some-clause-full
returns-in-Some-clause-full c = c.define.ensures.full

pub returns-in-Some-mark-clause-runs : goal.returns-in-Some-mark-clause-runs
returns-in-Some-mark-clause-runs c =
    RunsTo-after drop_form command_form c.args.tokens.now c.in-Some-mark.rest.now c.drop_command.result
    (λ outcome run. skips c.in_default.ensures.found (takes_as c.in-Some-mark.ensures.found run))
    c.drop_command.ensures.runs

pub returns-in-Some-mark-clause-spelled : goal.returns-in-Some-mark-clause-spelled
returns-in-Some-mark-clause-spelled c = rw c.in-Some-mark.ensures.spelled c.drop_command.ensures.spelled

pub returns-in-Some-mark-clause-full : goal.returns-in-Some-mark-clause-full
returns-in-Some-mark-clause-full c = c.drop_command.ensures.full

pub returns-in-Some-mark-2-clause-runs : goal.returns-in-Some-mark-2-clause-runs
returns-in-Some-mark-2-clause-runs c =
    RunsTo-after move_form command_form c.args.tokens.now c.in-Some-mark-2.rest.now c.move_referent.result
    (λ outcome run. skips c.in_default.ensures.found (skips c.in_default-mark.ensures.found (takes_as c.in-Some-mark-2.ensures.found run)))
    c.move_referent.ensures.runs

pub returns-in-Some-mark-2-clause-spelled : goal.returns-in-Some-mark-2-clause-spelled
returns-in-Some-mark-2-clause-spelled c = rw c.in-Some-mark-2.ensures.spelled c.move_referent.ensures.spelled

pub returns-in-Some-mark-2-clause-full : goal.returns-in-Some-mark-2-clause-full
returns-in-Some-mark-2-clause-full c = c.move_referent.ensures.full

pub returns-in-Some-mark-3-clause-runs : goal.returns-in-Some-mark-3-clause-runs
returns-in-Some-mark-3-clause-runs c =
    RunsTo-after insert_form command_form c.args.tokens.now c.in-Some-mark-3.rest.now c.insert.result
    (λ outcome run. skips c.in_default.ensures.found (skips c.in_default-mark.ensures.found (skips c.in_default-mark-2.ensures.found (takes_as c.in-Some-mark-3.ensures.found run))))
    c.insert.ensures.runs

pub returns-in-Some-mark-3-clause-spelled : goal.returns-in-Some-mark-3-clause-spelled
returns-in-Some-mark-3-clause-spelled c = rw c.in-Some-mark-3.ensures.spelled c.insert.ensures.spelled

pub returns-in-Some-mark-3-clause-full : goal.returns-in-Some-mark-3-clause-full
returns-in-Some-mark-3-clause-full c = c.insert.ensures.full

pub returns-in-Some-mark-4-clause-runs : goal.returns-in-Some-mark-4-clause-runs
returns-in-Some-mark-4-clause-runs c =
    RunsTo-after remove_form command_form c.args.tokens.now c.in-Some-mark-4.rest.now c.remove.result
    (λ outcome run. skips c.in_default.ensures.found (skips c.in_default-mark.ensures.found (skips c.in_default-mark-2.ensures.found (skips c.in_default-mark-3.ensures.found (takes_as c.in-Some-mark-4.ensures.found run)))))
    c.remove.ensures.runs

pub returns-in-Some-mark-4-clause-spelled : goal.returns-in-Some-mark-4-clause-spelled
returns-in-Some-mark-4-clause-spelled c = rw c.in-Some-mark-4.ensures.spelled c.remove.ensures.spelled

pub returns-in-Some-mark-4-clause-full : goal.returns-in-Some-mark-4-clause-full
returns-in-Some-mark-4-clause-full c = c.remove.ensures.full

pub returns-clause-runs : goal.returns-clause-runs
returns-clause-runs c =
    RunsTo-after asking_form command_form c.args.tokens.now c.args.tokens.now c.asking.result
    (λ outcome run. skips c.in_default.ensures.found (skips c.in_default-mark.ensures.found (skips c.in_default-mark-2.ensures.found (skips c.in_default-mark-3.ensures.found (skips c.in_default-mark-4.ensures.found run)))))
    c.asking.ensures.runs
