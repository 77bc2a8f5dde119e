-- The order of bytes is total, and only equal bytes tie.
use Rattle.rs_records.proofs.Orders.{is_below-cases}
use Rattle.rs_records.proofs.laws.records_are_ordered.Goals as goal

pub returns : goal.returns
returns c = is_below-cases
