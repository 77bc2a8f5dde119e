use Rattle.std.proofs.Common.{rules}
use Rattle.rs_coalesce.specs.Joined.{row_place_cmp}
use Rattle.rs_sweep.proofs.taken.by_row.Goals as goal

pub returns : goal.returns
unfolding row_place_cmp
returns c = search rules
