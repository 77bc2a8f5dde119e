use Rattle.rs_descent.specs.Reading.{is_done, is_fail, skips}
use Rattle.rs_descent.proofs.Steps.{takes_as}
use Rattle.rs_descent.proofs.conditions.comparison.Goals as goal

pub returns-in-Some-clause-runs : goal.returns-in-Some-clause-runs
returns-in-Some-clause-runs c = takes_as c.in-Some.ensures.found is_done

pub returns-in-Some-mark-clause-runs : goal.returns-in-Some-mark-clause-runs
returns-in-Some-mark-clause-runs c = skips c.in_default.ensures.found (takes_as c.in-Some-mark.ensures.found is_done)

pub returns-in-Some-mark-2-clause-runs : goal.returns-in-Some-mark-2-clause-runs
returns-in-Some-mark-2-clause-runs c = skips c.in_default.ensures.found (skips c.in_default-mark.ensures.found (takes_as c.in-Some-mark-2.ensures.found is_done))

pub returns-in-Some-mark-3-clause-runs : goal.returns-in-Some-mark-3-clause-runs
returns-in-Some-mark-3-clause-runs c = skips c.in_default.ensures.found (skips c.in_default-mark.ensures.found (skips c.in_default-mark-2.ensures.found (takes_as c.in-Some-mark-3.ensures.found is_done)))

pub returns-in-Some-mark-4-clause-runs : goal.returns-in-Some-mark-4-clause-runs
returns-in-Some-mark-4-clause-runs c = skips c.in_default.ensures.found (skips c.in_default-mark.ensures.found (skips c.in_default-mark-2.ensures.found (skips c.in_default-mark-3.ensures.found (takes_as c.in-Some-mark-4.ensures.found is_done))))

pub returns-in-Some-mark-5-clause-runs : goal.returns-in-Some-mark-5-clause-runs
returns-in-Some-mark-5-clause-runs c = skips c.in_default.ensures.found (skips c.in_default-mark.ensures.found (skips c.in_default-mark-2.ensures.found (skips c.in_default-mark-3.ensures.found (skips c.in_default-mark-4.ensures.found (takes_as c.in-Some-mark-5.ensures.found is_done)))))

pub returns-clause-runs : goal.returns-clause-runs
returns-clause-runs c = skips c.in_default.ensures.found (skips c.in_default-mark.ensures.found (skips c.in_default-mark-2.ensures.found (skips c.in_default-mark-3.ensures.found (skips c.in_default-mark-4.ensures.found (skips c.in_default-mark-5.ensures.found is_fail)))))
