use Rattle.rs_facts.proofs.Sets.{same_places}
use Rattle.rs_facts.proofs.laws.same_rows_are_one_set.Goals as goal

pub returns : goal.returns
returns c = same_places
