-- What a store shows is what its state has.
use Rattle.rs_store_source.proofs.RouteEnds.{ends_of_state, ends_of_version}
use Rattle.rs_store_source.proofs.States.{rows_of_state, rows_of_version, stands_shown}
use Rattle.rs_store_source.proofs.laws.store_shows_the_facts_of_its_state.Goals as goal

pub returns-clause-shows : goal.returns-clause-shows
returns-clause-shows g c = stands_shown g.D.Disk

pub returns-clause-facts : goal.returns-clause-facts
returns-clause-facts g c = rows_of_state g.D.Disk c.store_stands_in_one_state.ensures.state

pub returns-clause-ends : goal.returns-clause-ends
returns-clause-ends g c = ends_of_state g.D.Disk

pub returns-clause-live : goal.returns-clause-live
returns-clause-live g c = rows_of_version g.D.Disk

pub returns-clause-ends_live : goal.returns-clause-ends_live
returns-clause-ends_live g c = ends_of_version g.D.Disk
