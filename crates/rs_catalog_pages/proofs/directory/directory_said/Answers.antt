-- So many bytes say a directory, whatever they are.
use Rattle.rs_catalog_pages.proofs.Directories.{fixed_directory, never_damaged}
use Rattle.rs_catalog_pages.proofs.directory.directory_said.Goals as goal

pub returns-clause-says : goal.returns-clause-says
returns-clause-says c = fixed_directory c.args.bytes.now c.requires.size (λ i. (c.type_inv.bytes i).fits)

pub returns-clause-refused : goal.returns-clause-refused
returns-clause-refused c = never_damaged c.args.bytes.now c.requires.size (λ i. (c.type_inv.bytes i).fits) c.read_whole.result c.read_whole.ensures.refused c.read_whole.ensures.damaged
