-- It is below where it is ordered before.
use Rattle.std.proofs.Common.{◌∙◌, ap}
use Rattle.std.specs.Ordering.{is_lt}
use Rattle.rs_records.specs.Order.{is_below}
use Rattle.rs_records.proofs.order.is_below.Goals as goal

pub returns : goal.returns
unfolding is_below
returns c = c.is_lt.ensures ∙ ap is_lt c.compare.ensures
