use Rattle.rs_catalog_meaning.proofs.LawfulStates.{listed_of, meant}
use Rattle.rs_catalog_meaning.proofs.laws.listed_definitions_of_a_lawful_state_are_meant.Goals as goal

pub returns-clause-meant : goal.returns-clause-meant
returns-clause-meant c = meant

pub returns-clause-listed : goal.returns-clause-listed
returns-clause-listed c = listed_of
