use Rattle.rs_file_meaning.proofs.One.{pages_one}
use Rattle.rs_file_meaning.proofs.standing.pages_stand_for_one_state.Goals as goal

pub returns : goal.returns
returns c = pages_one c.text_of_a_view_says_its_query.ensures c.text_says_one_query.ensures c.file_holds_one_thing.ensures
