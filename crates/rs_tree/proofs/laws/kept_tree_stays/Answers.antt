-- Each page of its shape is one of the owner's.
use Rattle.rs_tree.proofs.Framed.{kept_tree_stays}
use Rattle.rs_tree.proofs.laws.kept_tree_stays.Goals as goal
use Rattle.rs_tree.specs.Forms.{form}

pub returns : goal.returns
returns g c = λ width. kept_tree_stays (form g.S.Summary width)
