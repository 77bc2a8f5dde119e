-- Each item is one, and so is each list.
use Rattle.rs_catalog_pages.proofs.Chains.{says_one}
use Rattle.rs_catalog_pages.proofs.laws.bytes_say_one_catalogue.Goals as goal

pub returns : goal.returns
returns c = says_one
