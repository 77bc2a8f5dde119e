use Rattle.std.proofs.Common.{rules}
use Rattle.rs_value.proofs.fitting.has_type.Goals as goal

pub returns-in_default-Null : goal.returns-in_default-Null
returns-in_default-Null c = search rules
