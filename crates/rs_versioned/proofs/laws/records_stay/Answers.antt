-- As their cells do.
use Rattle.rs_versioned.specs.Events.{kept_events}
use Rattle.rs_versioned.specs.Referents.{kept_referents}
use Rattle.rs_versioned.proofs.KeptReferents.{referents_are_kept}
use Rattle.rs_versioned.proofs.KeptRecords.{events_are_kept}
use Rattle.rs_versioned.proofs.Staying.{held_kept, held_later, held_none, held_one}
use Rattle.rs_versioned.proofs.laws.records_stay.Goals as goal

pub returns-clause-later_events : goal.returns-clause-later_events
returns-clause-later_events c = λ types. held_later (kept_events types)

pub returns-clause-later_referents : goal.returns-clause-later_referents
returns-clause-later_referents c = held_later kept_referents

pub returns-clause-kept_events : goal.returns-clause-kept_events
returns-clause-kept_events c = λ types. held_kept (kept_events types)

pub returns-clause-kept_referents : goal.returns-clause-kept_referents
returns-clause-kept_referents c = held_kept kept_referents

pub returns-clause-one_list_of_events : goal.returns-clause-one_list_of_events
returns-clause-one_list_of_events c = λ types. held_one (kept_events types) (events_are_kept types)

pub returns-clause-one_list_of_referents : goal.returns-clause-one_list_of_referents
returns-clause-one_list_of_referents c = held_one kept_referents referents_are_kept

pub returns-clause-no_events : goal.returns-clause-no_events
returns-clause-no_events c = λ types. held_none (kept_events types)

pub returns-clause-no_referents : goal.returns-clause-no_referents
returns-clause-no_referents c = held_none kept_referents
