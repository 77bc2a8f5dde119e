-- Each part stays in its page.
use Rattle.rs_catalog_pages.proofs.Chains.{catalogue_kept}
use Rattle.rs_catalog_pages.proofs.laws.kept_catalogue_stays.Goals as goal

pub returns : goal.returns
returns c = catalogue_kept
