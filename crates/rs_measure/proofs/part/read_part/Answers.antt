use Rattle.rs_measure.proofs.PartText.{unsaid_percent, on_err_above}
use Rattle.rs_measure.proofs.part.read_part.Goals as goal

pub returns-in-Some-clause-refused : goal.returns-in-Some-clause-refused
returns-in-Some-clause-refused c = on_err_above c.args.text.now c.in-Some.billionths c.part_of.result c.in-Some.ensures.said c.part_of.ensures.refused

pub returns-in-None-clause-refused : goal.returns-in-None-clause-refused
returns-in-None-clause-refused c = unsaid_percent c.args.text.now c.in-None.ensures.none
