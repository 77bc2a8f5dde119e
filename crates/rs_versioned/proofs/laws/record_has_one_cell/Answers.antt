-- It is written in one way.
use Rattle.rs_versioned.proofs.EventCells.{event_has_one_cell, event_wide}
use Rattle.rs_versioned.proofs.ReferentCells.{referent_has_one_cell, referent_width_is}
use Rattle.rs_versioned.proofs.laws.record_has_one_cell.Goals as goal

pub returns-clause-event : goal.returns-clause-event
returns-clause-event c = event_has_one_cell

pub returns-clause-referent : goal.returns-clause-referent
returns-clause-referent c = referent_has_one_cell

pub returns-clause-event_width : goal.returns-clause-event_width
returns-clause-event_width c = event_wide

pub returns-clause-referent_width : goal.returns-clause-referent_width
returns-clause-referent_width c = referent_width_is
