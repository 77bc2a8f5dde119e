-- They are read back from its last bytes.
use Rattle.rs_versioned.proofs.KeptReferents.{referents_are_kept}
use Rattle.rs_versioned.proofs.KeptRecords.{events_are_kept}
use Rattle.rs_versioned.proofs.laws.cell_has_the_versions_of_its_record.Goals as goal

pub returns-clause-event_born : goal.returns-clause-event_born
returns-clause-event_born c = λ types. (events_are_kept types).born

pub returns-clause-event_died : goal.returns-clause-event_died
returns-clause-event_died c = λ types. (events_are_kept types).died

pub returns-clause-event_ended : goal.returns-clause-event_ended
returns-clause-event_ended c = λ types. (events_are_kept types).ends

pub returns-clause-referent_born : goal.returns-clause-referent_born
returns-clause-referent_born c = referents_are_kept.born

pub returns-clause-referent_died : goal.returns-clause-referent_died
returns-clause-referent_died c = referents_are_kept.died

pub returns-clause-referent_ended : goal.returns-clause-referent_ended
returns-clause-referent_ended c = referents_are_kept.ends
