use Rattle.rs_file_meaning.proofs.One.{contents_one, same_state}
use Rattle.rs_file_meaning.proofs.standing.contents_have_one_state.Goals as goal

pub returns-clause-one : goal.returns-clause-one
returns-clause-one c = contents_one c.text_of_a_view_says_its_query.ensures c.text_says_one_query.ensures

pub returns-clause-same : goal.returns-clause-same
returns-clause-same c = same_state
