-- Each entry says one page.
use Rattle.rs_tree.proofs.Ones.{tree_has_its_pages}
use Rattle.rs_tree.proofs.laws.tree_has_its_pages.Goals as goal
use Rattle.rs_tree.specs.Forms.{form}

pub returns : goal.returns
returns g c = λ width. tree_has_its_pages (form g.S.Summary width)
