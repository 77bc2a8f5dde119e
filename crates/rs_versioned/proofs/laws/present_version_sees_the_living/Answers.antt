-- Cells and what they say agree about birth and end.
use Rattle.rs_versioned.specs.Events.{kept_events}
use Rattle.rs_versioned.specs.Referents.{kept_referents}
use Rattle.rs_versioned.proofs.KeptReferents.{referents_are_kept}
use Rattle.rs_versioned.proofs.KeptRecords.{events_are_kept}
use Rattle.rs_versioned.proofs.Present.{held_clearable, held_living, held_present}
use Rattle.rs_versioned.proofs.laws.present_version_sees_the_living.Goals as goal

pub returns-clause-events : goal.returns-clause-events
returns-clause-events c = λ types. held_present (kept_events types) (events_are_kept types)

pub returns-clause-referents : goal.returns-clause-referents
returns-clause-referents c = held_present kept_referents referents_are_kept

pub returns-clause-living_events : goal.returns-clause-living_events
returns-clause-living_events c = λ types. held_living (kept_events types) (events_are_kept types)

pub returns-clause-living_referents : goal.returns-clause-living_referents
returns-clause-living_referents c = held_living kept_referents referents_are_kept

pub returns-clause-clearable_events : goal.returns-clause-clearable_events
returns-clause-clearable_events c = λ types. held_clearable (kept_events types) (events_are_kept types)

pub returns-clause-clearable_referents : goal.returns-clause-clearable_referents
returns-clause-clearable_referents c = held_clearable kept_referents referents_are_kept
