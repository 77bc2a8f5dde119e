-- The cells of a tree ascend.
use Rattle.rs_versioned.proofs.PrintingOrder.{held_in_order, held_window_in_order}
use Rattle.rs_versioned.proofs.laws.spans_are_in_printing_order.Goals as goal

pub returns-clause-whole : goal.returns-clause-whole
returns-clause-whole c = held_in_order

pub returns-clause-between : goal.returns-clause-between
returns-clause-between c = held_window_in_order
