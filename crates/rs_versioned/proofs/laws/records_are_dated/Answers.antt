-- As their cells are.
use Rattle.rs_versioned.specs.Events.{kept_events}
use Rattle.rs_versioned.specs.Referents.{kept_referents}
use Rattle.rs_versioned.proofs.KeptReferents.{referents_are_kept}
use Rattle.rs_versioned.proofs.KeptRecords.{events_are_kept}
use Rattle.rs_versioned.proofs.Present.{held_dated}
use Rattle.rs_versioned.proofs.laws.records_are_dated.Goals as goal

pub returns-clause-events : goal.returns-clause-events
returns-clause-events c = λ types. held_dated (kept_events types) (events_are_kept types)

pub returns-clause-referents : goal.returns-clause-referents
returns-clause-referents c = held_dated kept_referents referents_are_kept
