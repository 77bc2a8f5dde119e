-- Contents that one store keeps are the same, and have one state.
use Rattle.rs_store.proofs.OneState.{one_state, state_is}
use Rattle.rs_store.proofs.laws.store_stands_in_one_state.Goals as goal

pub returns-clause-one : goal.returns-clause-one
returns-clause-one g c = one_state g.D.Disk c.file_holds_one_thing.ensures c.meant_contents_stay_meant.ensures.says c.contents_have_one_state.ensures.one c.contents_have_one_state.ensures.same

pub returns-clause-state : goal.returns-clause-state
returns-clause-state g c = state_is g.D.Disk c.contents_have_one_state.ensures.one
