use Rattle.std.proofs.Common.{rules}
use Rattle.rs_meaning.proofs.said_cursors.rows_said.Goals as goal

pub returns-else-rows-eq0 : goal.returns-else-rows-eq0
returns-else-rows-eq0 c = search rules
