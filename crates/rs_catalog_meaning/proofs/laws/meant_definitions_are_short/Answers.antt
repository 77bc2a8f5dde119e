use Rattle.rs_catalog_meaning.proofs.Fitting.{meant_short}
use Rattle.rs_catalog_meaning.proofs.laws.meant_definitions_are_short.Goals as goal

pub returns : goal.returns
returns c = meant_short
