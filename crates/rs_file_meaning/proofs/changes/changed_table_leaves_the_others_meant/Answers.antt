use Rattle.rs_file_meaning.proofs.Changed.{meant_put, seen_others, seen_put, seen_there, still_between, table_meant, table_runs}
use Rattle.rs_file_meaning.proofs.changes.changed_table_leaves_the_others_meant.Goals as goal

pub returns-clause-table : goal.returns-clause-table
returns-clause-table c = λ oldest version contents item before table after has meant. table_meant oldest contents item before table after has meant version

pub returns-clause-runs : goal.returns-clause-runs
returns-clause-runs c = table_runs

pub returns-clause-meant : goal.returns-clause-meant
returns-clause-meant c = λ oldest contents item before table now after has meant. meant_put oldest contents item before table after has meant now

pub returns-clause-between : goal.returns-clause-between
returns-clause-between c = still_between

pub returns-clause-was : goal.returns-clause-was
returns-clause-was c = seen_there

pub returns-clause-is : goal.returns-clause-is
returns-clause-is c = seen_put

pub returns-clause-others : goal.returns-clause-others
returns-clause-others c = seen_others
