use Rattle.rs_file_meaning.proofs.Fresh.{created_stands}
use Rattle.rs_file_meaning.proofs.standing.created_file_stands_for_the_fresh_state.Goals as goal

pub returns : goal.returns
returns c = created_stands c.empty_catalogue_is_meant.ensures
