-- The bytes of a directory are so many.
use Rattle.rs_catalog_pages.proofs.Directories.{directory_is_one as one_directory}
use Rattle.rs_catalog_pages.proofs.laws.directory_is_one.Goals as goal

pub returns : goal.returns
returns c = one_directory
