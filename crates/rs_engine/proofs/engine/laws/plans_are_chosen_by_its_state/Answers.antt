-- The records that live are the runs of the state.
use Rattle.rs_engine.proofs.Present.{are_counted}
use Rattle.rs_engine.proofs.engine.laws.plans_are_chosen_by_its_state.Goals as goal

pub returns : goal.returns
returns g c = λ engine machine is. are_counted g.D.Disk c.stores_have_their_laws.ensures engine machine is c.living_records_are_the_runs_of_the_state.ensures
