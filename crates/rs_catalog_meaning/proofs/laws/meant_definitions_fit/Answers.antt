use Rattle.rs_catalog_meaning.proofs.Fitting.{meant_fits}
use Rattle.rs_catalog_meaning.proofs.laws.meant_definitions_fit.Goals as goal

pub returns : goal.returns
returns c = meant_fits
