-- Of the dead as many are clearable as of all cells.
use Rattle.rs_tree.specs.Form.{form_of}
use Rattle.rs_cell_versions.proofs.Seen.{cleared_count}
use Rattle.rs_cell_versions.proofs.laws.clearing_takes_as_many_as_there_are.Goals as goal

pub returns : goal.returns
returns g c = λ width. cleared_count (form_of g.S.Summary.says g.S.Summary.unit g.S.Summary.join g.S.Summary.of g.S.Summary.WIDTH width)
