-- The lemmas say it.
use Rattle.rs_tree.specs.Form.{form_of}
use Rattle.rs_cell_versions.proofs.Dated.{dated_clearable, dated_listed}
use Rattle.rs_cell_versions.proofs.laws.dead_cells_are_clearable_at_present.Goals as goal

pub returns-clause-all : goal.returns-clause-all
returns-clause-all g c = dated_clearable

pub returns-clause-listed : goal.returns-clause-listed
returns-clause-listed g c = λ width. dated_listed (form_of g.S.Summary.says g.S.Summary.unit g.S.Summary.join g.S.Summary.of g.S.Summary.WIDTH width)
