-- Its trees are empty.
use Rattle.rs_attr.proofs.Roots.{rootless_entries, rootless_table}
use Rattle.rs_attr.proofs.laws.rootless_table_has_no_pages.Goals as goal

pub returns-clause-table : goal.returns-clause-table
returns-clause-table c = rootless_table

pub returns-clause-indexes : goal.returns-clause-indexes
returns-clause-indexes c = rootless_entries
