-- Its trees are empty.
use Rattle.rs_file.proofs.Rootless.{rootless_goes, table_rootless}
use Rattle.rs_file.proofs.laws.table_without_roots_goes.Goals as goal

pub returns-clause-pages : goal.returns-clause-pages
returns-clause-pages c = table_rootless

pub returns-clause-goes : goal.returns-clause-goes
returns-clause-goes c = rootless_goes
