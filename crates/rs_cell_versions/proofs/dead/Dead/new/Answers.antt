-- Nothing is held.
use Rattle.rs_cell_versions.proofs.Fronts.{holds-none, part-none}
use Rattle.rs_cell_versions.proofs.dead.Dead.new.Goals as goal

pub invariant_of-result : goal.invariant_of-result
invariant_of-result c = holds-none c.args.width c.new.result.items c.requires

pub returns-clause-working : goal.returns-clause-working
returns-clause-working c = part-none 0 c.args.width c.new.result.items

pub returns-clause-committed : goal.returns-clause-committed
returns-clause-committed c = part-none 0 c.args.width c.new.result.items
