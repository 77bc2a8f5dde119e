-- The living of a table are its runs.
use Rattle.rs_store_source.proofs.Counted.{counted_in_state}
use Rattle.rs_store_source.proofs.laws.living_records_are_the_runs_of_the_state.Goals as goal

pub returns : goal.returns
returns g c = λ oldest store state stands name item there indexes. counted_in_state g.D.Disk oldest store state stands name item there c.store_stands_in_one_state.ensures.state
