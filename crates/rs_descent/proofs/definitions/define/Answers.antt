use Rattle.rs_grammar.specs.Grammar.{define_form, define_route_form, define_referent_form, define_index_form, define_view_form, define_table_form, define_alignment_form}
use Rattle.rs_descent.specs.Reading.{is_fail, skips}
use Rattle.rs_descent.proofs.Steps.{takes_as, RunsTo-after}
use Rattle.rs_descent.proofs.definitions.define.Goals as goal

pub returns-in-Some-clause-runs : goal.returns-in-Some-clause-runs
returns-in-Some-clause-runs c =
    RunsTo-after define_route_form define_form c.args.tokens.now c.in-Some.rest.now c.define_route.result
    (λ outcome run. takes_as c.in-Some.ensures.found run)
    c.define_route.ensures.runs

pub returns-in-Some-clause-spelled : goal.returns-in-Some-clause-spelled
returns-in-Some-clause-spelled c = rw c.in-Some.ensures.spelled c.define_route.ensures.spelled

pub returns-in-Some-clause-full : goal.returns-in-Some-clause-full
returns-in-Some-clause-full c = c.define_route.ensures.full

pub returns-in-Some-mark-clause-runs : goal.returns-in-Some-mark-clause-runs
returns-in-Some-mark-clause-runs c =
    RunsTo-after define_referent_form define_form c.args.tokens.now c.in-Some-mark.rest.now c.define_referent.result
    (λ outcome run. skips c.in_default.ensures.found (takes_as c.in-Some-mark.ensures.found run))
    c.define_referent.ensures.runs

pub returns-in-Some-mark-clause-spelled : goal.returns-in-Some-mark-clause-spelled
returns-in-Some-mark-clause-spelled c = rw c.in-Some-mark.ensures.spelled c.define_referent.ensures.spelled

pub returns-in-Some-mark-clause-full : goal.returns-in-Some-mark-clause-full
returns-in-Some-mark-clause-full c = c.define_referent.ensures.full

pub returns-in-Some-mark-2-clause-runs : goal.returns-in-Some-mark-2-clause-runs
returns-in-Some-mark-2-clause-runs c =
    RunsTo-after define_view_form define_form c.args.tokens.now c.in-Some-mark-2.rest.now c.define_view.result
    (λ outcome run. skips c.in_default.ensures.found (skips c.in_default-mark.ensures.found (takes_as c.in-Some-mark-2.ensures.found run)))
    c.define_view.ensures.runs

pub returns-in-Some-mark-2-clause-spelled : goal.returns-in-Some-mark-2-clause-spelled
returns-in-Some-mark-2-clause-spelled c = rw c.in-Some-mark-2.ensures.spelled c.define_view.ensures.spelled

pub returns-in-Some-mark-2-clause-full : goal.returns-in-Some-mark-2-clause-full
returns-in-Some-mark-2-clause-full c = c.define_view.ensures.full

pub returns-in-Some-mark-3-clause-runs : goal.returns-in-Some-mark-3-clause-runs
returns-in-Some-mark-3-clause-runs c =
    RunsTo-after define_alignment_form define_form c.args.tokens.now c.in-Some-mark-3.rest.now c.define_alignment.result
    (λ outcome run. skips c.in_default.ensures.found (skips c.in_default-mark.ensures.found (skips c.in_default-mark-2.ensures.found (takes_as c.in-Some-mark-3.ensures.found run))))
    c.define_alignment.ensures.runs

pub returns-in-Some-mark-3-clause-spelled : goal.returns-in-Some-mark-3-clause-spelled
returns-in-Some-mark-3-clause-spelled c = rw c.in-Some-mark-3.ensures.spelled c.define_alignment.ensures.spelled

pub returns-in-Some-mark-3-clause-full : goal.returns-in-Some-mark-3-clause-full
returns-in-Some-mark-3-clause-full c = c.define_alignment.ensures.full

pub returns-in-Some-mark-4-clause-runs : goal.returns-in-Some-mark-4-clause-runs
returns-in-Some-mark-4-clause-runs c =
    RunsTo-after define_index_form define_form c.args.tokens.now c.in-Some-mark-4.rest.now c.define_index.result
    (λ outcome run. skips c.in_default.ensures.found (skips c.in_default-mark.ensures.found (skips c.in_default-mark-2.ensures.found (skips c.in_default-mark-3.ensures.found (takes_as c.in-Some-mark-4.ensures.found run)))))
    c.define_index.ensures.runs

pub returns-in-Some-mark-4-clause-spelled : goal.returns-in-Some-mark-4-clause-spelled
returns-in-Some-mark-4-clause-spelled c = rw c.in-Some-mark-4.ensures.spelled c.define_index.ensures.spelled

pub returns-in-Some-mark-4-clause-full : goal.returns-in-Some-mark-4-clause-full
returns-in-Some-mark-4-clause-full c = c.define_index.ensures.full

pub returns-in-Some-mark-5-clause-runs : goal.returns-in-Some-mark-5-clause-runs
returns-in-Some-mark-5-clause-runs c =
    RunsTo-after define_table_form define_form c.args.tokens.now c.in-Some-mark-5.rest.now c.define_table.result
    (λ outcome run. skips c.in_default.ensures.found (skips c.in_default-mark.ensures.found (skips c.in_default-mark-2.ensures.found (skips c.in_default-mark-3.ensures.found (skips c.in_default-mark-4.ensures.found (takes_as c.in-Some-mark-5.ensures.found run))))))
    c.define_table.ensures.runs

pub returns-in-Some-mark-5-clause-spelled : goal.returns-in-Some-mark-5-clause-spelled
returns-in-Some-mark-5-clause-spelled c = rw c.in-Some-mark-5.ensures.spelled c.define_table.ensures.spelled

pub returns-in-Some-mark-5-clause-full : goal.returns-in-Some-mark-5-clause-full
returns-in-Some-mark-5-clause-full c = c.define_table.ensures.full

pub returns-in-Some-mark-6-clause-runs : goal.returns-in-Some-mark-6-clause-runs
returns-in-Some-mark-6-clause-runs c =
    RunsTo-after define_table_form define_form c.args.tokens.now c.in-Some-mark-6.rest.now c.define_table-in-Some-mark-6.result
    (λ outcome run. skips c.in_default.ensures.found (skips c.in_default-mark.ensures.found (skips c.in_default-mark-2.ensures.found (skips c.in_default-mark-3.ensures.found (skips c.in_default-mark-4.ensures.found (skips c.in_default-mark-5.ensures.found (takes_as c.in-Some-mark-6.ensures.found run)))))))
    c.define_table-in-Some-mark-6.ensures.runs

pub returns-in-Some-mark-6-clause-spelled : goal.returns-in-Some-mark-6-clause-spelled
returns-in-Some-mark-6-clause-spelled c = rw c.in-Some-mark-6.ensures.spelled c.define_table-in-Some-mark-6.ensures.spelled

pub returns-in-Some-mark-6-clause-full : goal.returns-in-Some-mark-6-clause-full
returns-in-Some-mark-6-clause-full c = c.define_table-in-Some-mark-6.ensures.full

pub returns-in-None-clause-runs : goal.returns-in-None-clause-runs
returns-in-None-clause-runs c = skips c.in_default.ensures.found (skips c.in_default-mark.ensures.found (skips c.in_default-mark-2.ensures.found (skips c.in_default-mark-3.ensures.found (skips c.in_default-mark-4.ensures.found (skips c.in_default-mark-5.ensures.found (skips c.in-None.ensures.found is_fail))))))
