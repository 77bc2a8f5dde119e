-- Each record ties with itself.
use Rattle.rs_records.proofs.Orders.{is_below-self}
use Rattle.rs_records.proofs.laws.no_record_is_below_itself.Goals as goal

pub returns : goal.returns
returns c = is_below-self
