-- Each page says the next.
use Rattle.rs_catalog_pages.proofs.Chains.{holds_pages}
use Rattle.rs_catalog_pages.proofs.laws.catalogue_has_its_pages.Goals as goal

pub returns : goal.returns
returns c = holds_pages
