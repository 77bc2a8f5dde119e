use Rattle.std.proofs.Common.{rules}
use Rattle.rs_protocol.proofs.requests.session_of.Goals as goal

pub returns-then-ends_number-2 : goal.returns-then-ends_number-2
returns-then-ends_number-2 c = search rules
