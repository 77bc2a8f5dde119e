-- Each page says its part.
use Rattle.rs_catalog_pages.proofs.Chains.{holds_bytes}
use Rattle.rs_catalog_pages.proofs.laws.catalogue_has_its_bytes.Goals as goal

pub returns : goal.returns
returns c = holds_bytes
