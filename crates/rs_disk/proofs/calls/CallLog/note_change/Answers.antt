use Rattle.std.proofs.Common.{rules}
use Rattle.rs_disk.proofs.calls.CallLog.note_change.Goals as goal

pub returns-clause-synced : goal.returns-clause-synced
returns-clause-synced c = search rules
