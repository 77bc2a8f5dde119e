use Rattle.std.proofs.Common.{arith}
use Rattle.std.proofs.lemmas.Grind.{common_steps}
use Rattle.rs_refusal.specs.Counts.{counted_on}
use Rattle.rs_disk.proofs.calls.CallLog.note_read.Goals as goal

pub returns-then-is_err-clause-count : goal.returns-then-is_err-clause-count
unfolding counted_on
returns-then-is_err-clause-count c = grind (arith, common_steps)
