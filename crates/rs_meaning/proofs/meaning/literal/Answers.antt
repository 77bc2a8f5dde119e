use Rattle.std.proofs.Common.{rules}
use Rattle.rs_meaning.proofs.meaning.literal.Goals as goal

pub returns-after-is_negative-clause-ok : goal.returns-after-is_negative-clause-ok
returns-after-is_negative-clause-ok c = search rules
