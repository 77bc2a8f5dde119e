use Rattle.rs_stored_catalog.proofs.Seen as seen
use Rattle.rs_stored_catalog.proofs.laws.listed_definitions_are_a_catalogues.Goals as goal

pub returns-clause-are : goal.returns-clause-are
returns-clause-are c = seen.are c.definitions_of_a_file_are_a_catalogues.ensures

pub returns-clause-seen : goal.returns-clause-seen
returns-clause-seen c = seen.seen
