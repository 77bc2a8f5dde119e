use Rattle.std.proofs.Common.{rules}
use Rattle.rs_measure.proofs.fixed_point.read_up_to.Goals as goal

pub returns-then-is_empty-clause-none : goal.returns-then-is_empty-clause-none
returns-then-is_empty-clause-none c = search rules
