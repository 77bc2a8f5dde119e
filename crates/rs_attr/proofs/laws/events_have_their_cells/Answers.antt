-- Each event has one cell.
use Rattle.rs_attr.proofs.Placing.{events_cells}
use Rattle.rs_attr.proofs.laws.events_have_their_cells.Goals as goal

pub returns : goal.returns
returns c = events_cells
