use Rattle.rs_catalog_meaning.proofs.StateLaws.{free_for_view, index_there, lawful_state}
use Rattle.rs_catalog_meaning.proofs.laws.meant_definitions_make_a_lawful_state.Goals as goal

pub returns-clause-state : goal.returns-clause-state
returns-clause-state c = lawful_state

pub returns-clause-views : goal.returns-clause-views
returns-clause-views c = λ catalogue view are there. free_for_view catalogue are view there

pub returns-clause-indexes : goal.returns-clause-indexes
returns-clause-indexes c = λ catalogue index table are once there of number. index_there catalogue are index table once there of number
