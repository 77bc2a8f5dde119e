-- By the bytes, then by place.
use Rattle.std.proofs.Common.{rules}
use Rattle.rs_attr.proofs.meant.by_row.Goals as goal

pub returns : goal.returns
returns c = search rules
