-- It is one page.
use Rattle.rs_catalog_pages.proofs.Directories.{directory_kept}
use Rattle.rs_catalog_pages.proofs.laws.kept_directory_stays.Goals as goal

pub returns : goal.returns
returns c = directory_kept
