use Rattle.rs_descent.specs.Reading.{is_done, is_fail, skips}
use Rattle.rs_descent.proofs.Steps.{takes_as}
use Rattle.rs_descent.proofs.conditions.null_test.Goals as goal

pub returns-in-Some-mark-clause-runs : goal.returns-in-Some-mark-clause-runs
returns-in-Some-mark-clause-runs c = takes_as c.in-Some.ensures.found (takes_as c.in-Some-mark.ensures.found is_done)

pub returns-in-None-clause-runs : goal.returns-in-None-clause-runs
returns-in-None-clause-runs c = takes_as c.in-Some.ensures.found (skips c.in-None.ensures.found is_fail)

pub returns-in-Some-mark-2-clause-runs : goal.returns-in-Some-mark-2-clause-runs
returns-in-Some-mark-2-clause-runs c = skips c.in_default.ensures.found (takes_as c.in-Some-mark-2.ensures.found is_done)

pub returns-clause-runs : goal.returns-clause-runs
returns-clause-runs c = skips c.in_default.ensures.found (skips c.in_default-mark.ensures.found is_fail)
