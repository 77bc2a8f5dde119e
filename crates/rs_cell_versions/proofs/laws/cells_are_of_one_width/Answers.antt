-- The lemma says it.
use Rattle.rs_tree.specs.Form.{form_of}
use Rattle.rs_cell_versions.proofs.Widths.{held_wide}
use Rattle.rs_cell_versions.proofs.laws.cells_are_of_one_width.Goals as goal

pub returns : goal.returns
returns g c = λ width. held_wide (form_of g.S.Summary.says g.S.Summary.unit g.S.Summary.join g.S.Summary.of g.S.Summary.WIDTH width)
