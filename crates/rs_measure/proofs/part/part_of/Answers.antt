use Rattle.std.proofs.Common.{rules}
use Rattle.rs_measure.proofs.part.part_of.Goals as goal

pub from_billionths-requires : goal.from_billionths-requires
from_billionths-requires c = search rules
