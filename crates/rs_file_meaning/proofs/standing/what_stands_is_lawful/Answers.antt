use Rattle.rs_file_meaning.proofs.Lawful.{stands_lawful}
use Rattle.rs_file_meaning.proofs.standing.what_stands_is_lawful.Goals as goal

pub returns : goal.returns
returns c = stands_lawful c.meant_definitions_make_a_lawful_state.ensures.state c.said_row_is_of_its_columns.ensures
