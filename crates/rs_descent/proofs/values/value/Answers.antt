use Rattle.rs_descent.specs.Reading.{is_done, is_fail, skips}
use Rattle.rs_descent.proofs.Steps.{takes_as}
use Rattle.rs_descent.proofs.values.value.Goals as goal

pub returns-in-Some-clause-runs : goal.returns-in-Some-clause-runs
returns-in-Some-clause-runs c = takes_as c.in-Some.ensures.found is_done

pub returns-in-Some-text-clause-runs : goal.returns-in-Some-text-clause-runs
returns-in-Some-text-clause-runs c = skips c.in_default.ensures.found (takes_as c.in-Some-mark.ensures.found (takes_as c.in-Some-text.ensures.found is_done))

pub returns-in-None-clause-runs : goal.returns-in-None-clause-runs
returns-in-None-clause-runs c = skips c.in_default.ensures.found (takes_as c.in-Some-mark.ensures.found (skips c.in-None.ensures.found is_fail))

pub returns-in-Some-text-2-clause-runs : goal.returns-in-Some-text-2-clause-runs
returns-in-Some-text-2-clause-runs c = skips c.in_default.ensures.found (skips c.in_default-mark.ensures.found (takes_as c.in-Some-text-2.ensures.found is_done))

pub returns-in-Some-text-3-clause-runs : goal.returns-in-Some-text-3-clause-runs
returns-in-Some-text-3-clause-runs c = skips c.in_default.ensures.found (skips c.in_default-mark.ensures.found (skips c.in_default-text.ensures.found (takes_as c.in-Some-text-3.ensures.found is_done)))

pub returns-clause-runs : goal.returns-clause-runs
returns-clause-runs c = skips c.in_default.ensures.found (skips c.in_default-mark.ensures.found (skips c.in_default-text.ensures.found (skips c.in_default-text-2.ensures.found is_fail)))
