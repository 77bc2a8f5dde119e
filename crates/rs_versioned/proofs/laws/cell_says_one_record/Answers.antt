-- It is read back from its bytes.
use Rattle.rs_versioned.proofs.EventCells.{event_said_once}
use Rattle.rs_versioned.proofs.ReferentCells.{referent_said_once}
use Rattle.rs_versioned.proofs.laws.cell_says_one_record.Goals as goal

pub returns-clause-event : goal.returns-clause-event
returns-clause-event c = event_said_once

pub returns-clause-referent : goal.returns-clause-referent
returns-clause-referent c = referent_said_once
