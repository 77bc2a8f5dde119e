-- A sum has each of its terms.
use Rattle.rs_attr.proofs.Placing.{all_of-middle}
use Rattle.rs_attr.proofs.laws.owners_have_the_pages_of_each.Goals as goal

pub returns : goal.returns
returns c = all_of-middle
