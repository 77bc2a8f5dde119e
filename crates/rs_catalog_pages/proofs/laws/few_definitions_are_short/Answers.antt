-- Each list takes so many bytes at the most.
use Rattle.rs_catalog_pages.proofs.Short.{few_definitions}
use Rattle.rs_catalog_pages.proofs.laws.few_definitions_are_short.Goals as goal

pub returns : goal.returns
returns c = few_definitions
