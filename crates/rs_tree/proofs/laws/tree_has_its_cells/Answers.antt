-- Each page has one header, and its records are the same.
use Rattle.rs_tree.proofs.Ones.{tree_has_its_cells}
use Rattle.rs_tree.proofs.laws.tree_has_its_cells.Goals as goal
use Rattle.rs_tree.specs.Forms.{form}

pub returns : goal.returns
returns g c = λ width. tree_has_its_cells (form g.S.Summary width)
