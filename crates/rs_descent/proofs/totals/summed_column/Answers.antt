use Rattle.rs_descent.specs.Reading.{is_done, is_fail, skips}
use Rattle.rs_descent.proofs.Steps.{takes_as}
use Rattle.rs_descent.proofs.totals.summed_column.Goals as goal

pub returns-in-Some-text-clause-runs : goal.returns-in-Some-text-clause-runs
returns-in-Some-text-clause-runs c = takes_as c.in-Some.ensures.found (takes_as c.in-Some-text.ensures.found is_done)

pub returns-in-None-clause-runs : goal.returns-in-None-clause-runs
returns-in-None-clause-runs c = takes_as c.in-Some.ensures.found (skips c.in-None.ensures.found is_fail)

pub returns-clause-runs : goal.returns-clause-runs
returns-clause-runs c = skips c.in_default.ensures.found is_done
