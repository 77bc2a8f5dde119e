use Rattle.rs_machine_laws.proofs.WellFormedQueries.{checked-sound}
use Rattle.rs_machine_laws.proofs.printed.checked_queries_are_well_formed.Goals as goal

pub returns-clause-well_formed : goal.returns-clause-well_formed
returns-clause-well_formed c = λ state tree query lawful passes. (checked-sound state tree query lawful passes).well_formed

pub returns-clause-columns_distinct : goal.returns-clause-columns_distinct
returns-clause-columns_distinct c = λ state tree query lawful passes. (checked-sound state tree query lawful passes).distinct
