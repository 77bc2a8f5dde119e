-- Their fields are the same.
use Rattle.rs_attr.proofs.Roots.{same_roots_on, still_on}
use Rattle.rs_attr.proofs.laws.indexes_stay_on_their_table.Goals as goal

pub returns-clause-kept : goal.returns-clause-kept
returns-clause-kept c = still_on

pub returns-clause-working : goal.returns-clause-working
returns-clause-working c = same_roots_on
