use Rattle.rs_catalog_laws.proofs.States.{state_of_same_rows}
use Rattle.rs_catalog_laws.proofs.rows.same_rows_make_the_same_state.Goals as goal

pub returns : goal.returns
returns c = state_of_same_rows
