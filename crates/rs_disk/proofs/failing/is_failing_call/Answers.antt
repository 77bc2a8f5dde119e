use Rattle.std.proofs.Common.{rules}
use Rattle.rs_disk.proofs.failing.is_failing_call.Goals as goal

pub returns-clause-turn : goal.returns-clause-turn
returns-clause-turn c = search rules
