-- It is the number at its place.
use Rattle.std.proofs.Common.{◌∙◌}
use Rattle.rs_versioned.proofs.CellParts.{number_at}
use Rattle.rs_versioned.proofs.ReferentCells.{measure_there}
use Rattle.rs_versioned.proofs.referent.measure_of.Goals as goal

pub returns : goal.returns
returns c referent says = c.number_of_four.ensures ∙ number_at 4 44 c.args.cell.now ∙ measure_there c.args.cell.now referent says
