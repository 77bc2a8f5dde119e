use Rattle.rs_store.proofs.OneState.{disk_one}
use Rattle.rs_store.proofs.laws.disk_stands_for_one_state.Goals as goal

pub returns-clause-file : goal.returns-clause-file
returns-clause-file c = disk_one c.disk_stands_for_one_map.ensures c.pages_stand_for_one_state.ensures

pub returns-clause-closed : goal.returns-clause-closed
returns-clause-closed c = λ limit most disk one other is are.
    disk_one c.disk_stands_for_one_map.ensures c.pages_stand_for_one_state.ensures limit most disk one other is.file are.file
