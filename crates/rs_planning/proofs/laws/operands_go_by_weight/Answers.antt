use Rattle.rs_planning.proofs.ByWeight.{by-weight, sorts-agree}
use Rattle.rs_planning.proofs.laws.operands_go_by_weight.Goals as goal

pub returns-clause-sorted : goal.returns-clause-sorted
returns-clause-sorted c = by-weight

pub returns-clause-only : goal.returns-clause-only
returns-clause-only c = sorts-agree
