-- The cells of a tree ascend.
use Rattle.rs_versioned.proofs.NameOrder.{held_by_name}
use Rattle.rs_versioned.proofs.laws.referents_are_in_name_order.Goals as goal

pub returns : goal.returns
returns c = held_by_name
